-- The bytes of the first block, of a client record and of a step: their parts, how long they are, and what storing them part after part gives.
use Prim.Native.Nat.{ℕ, ◌-◌}
use mathlib.Core.Path.{◌≡◌, refl, sym, ap, ◌∙◌}
use mathlib.Core.List.{List, [], ◌∷◌, ◌++◌}
use lib.ListN.{length, set, length-append}
use lib.Seq.{sets}
use Rattle.octets.specs.Octets.{bytes_of}
use Rattle.octets.proofs.Laws.{length_bytes, then_sets}
use Rattle.client.specs.declared.ClientRecord.{ClientRecord}
use Rattle.sequence.specs.declared.Step.{Step}
use Rattle.store.specs.Stored.{head_of, client_bytes, step_bytes}

-- ---- the first block: up to the edition

abbrev pub counted : ℕ → ℕ → List ℕ
counted c n = bytes_of 4 c ++ bytes_of 4 n

module _ (c n : ℕ) where
  pub counted_length : length (counted c n) ≡ 8
  counted_length = simp (length-append, length_bytes)

  module _ (edition : ℕ) where
    pub head_length : length (head_of c n edition) ≡ 12
    head_length = simp (length-append, length_bytes)

    -- its numbers, one after the other
    pub head_stored : (out : List ℕ) → sets (sets (sets out 0 (bytes_of 4 c)) 4 (bytes_of 4 n)) 8 (bytes_of 4 (edition - 1)) ≡ sets out 0 (head_of c n edition)
    head_stored out =
        sym
        (then_sets out 0 8 (counted c n) (bytes_of 4 (edition - 1)) counted_length
        ∙ ap (λ (l : List ℕ). sets l 8 (bytes_of 4 (edition - 1))) (then_sets out 0 4 (bytes_of 4 c) (bytes_of 4 n) (length_bytes 4 c)))

-- ---- a client record: up to its NAME, up to the master's NAME, up to the version label, up to the configuration label

abbrev pub first : ℕ → ClientRecord → List ℕ
first slot r = slot ∷ r.version.length ∷ r.configuration.length ∷ 0 ∷ []

abbrev pub named : ℕ → ClientRecord → List ℕ
named slot r = first slot r ++ bytes_of 8 r.name

abbrev pub names : ℕ → ClientRecord → List ℕ
names slot r = named slot r ++ bytes_of 8 r.master

abbrev pub version : ℕ → ClientRecord → List ℕ
version slot r = names slot r ++ r.version.bytes ++ 0 ∷ []

module _ (slot : ℕ) (r : ClientRecord) where
  pub named_length : length (named slot r) ≡ 12
  named_length = simp length_bytes

  pub names_length : length (names slot r) ≡ 20
  names_length = simp (length-append, length_bytes)

  module _ (v : length r.version.bytes ≡ 63) where
    pub version_length : length (version slot r) ≡ 84
    version_length = simp (length-append, length_bytes, v)

    module _ (w : length r.configuration.bytes ≡ 63) where
      pub client_length : length (client_bytes slot r) ≡ 148
      unfolding client_bytes
      client_length = simp (length-append, length_bytes, v, w)

      -- its fields, one after the other
      pub client_stored :
          (out : List ℕ)
          → set (sets (set (sets (sets (sets (sets out 0 (first slot r)) 4 (bytes_of 8 r.name)) 12 (bytes_of 8 r.master)) 20 r.version.bytes) 83 0) 84 r.configuration.bytes) 147 0
          ≡ sets out 0 (client_bytes slot r)
      unfolding client_bytes
      client_stored out =
          sym
          (then_sets out 0 147 (version slot r ++ r.configuration.bytes) (0 ∷ []) (simp (length-append, length_bytes, v, w))
          ∙ ap (λ (l : List ℕ). set l 147 0) (then_sets out 0 84 (version slot r) r.configuration.bytes version_length)
          ∙ ap (λ (l : List ℕ). set (sets l 84 r.configuration.bytes) 147 0)
          (then_sets out 0 83 (names slot r ++ r.version.bytes) (0 ∷ []) (simp (length-append, length_bytes, v))
          ∙ ap (λ (l : List ℕ). set l 83 0)
          (then_sets out 0 20 (names slot r) r.version.bytes names_length
          ∙ ap (λ (l : List ℕ). sets l 20 r.version.bytes)
          (then_sets out 0 12 (named slot r) (bytes_of 8 r.master) named_length
          ∙ ap (λ (l : List ℕ). sets l 12 (bytes_of 8 r.master)) (then_sets out 0 4 (first slot r) (bytes_of 8 r.name) refl)))))

-- ---- a step: up to its mark, up to its value, up to its zeros

abbrev pub fields : Step → List ℕ
fields s = s.slot ∷ s.function ∷ s.state ∷ s.distance ∷ []

abbrev pub marked : Step → List ℕ
marked s = fields s ++ bytes_of 4 s.mark

abbrev pub valued : Step → List ℕ
valued s = marked s ++ bytes_of 4 s.value

abbrev pub zeros : List ℕ
zeros = 0 ∷ 0 ∷ 0 ∷ 0 ∷ []

module _ (s : Step) where
  pub marked_length : length (marked s) ≡ 8
  marked_length = simp length_bytes

  pub valued_length : length (valued s) ≡ 12
  valued_length = simp (length-append, length_bytes)

  pub step_length : length (step_bytes s) ≡ 16
  unfolding step_bytes
  step_length = simp (length-append, length_bytes)

  -- its fields, one after the other
  pub step_stored :
      (out : List ℕ)
      → sets (sets (sets (sets out 0 (fields s)) 4 (bytes_of 4 s.mark)) 8 (bytes_of 4 s.value)) 12 zeros ≡ sets out 0 (step_bytes s)
  unfolding step_bytes
  step_stored out =
      sym
      (then_sets out 0 12 (valued s) zeros valued_length
      ∙ ap (λ (l : List ℕ). sets l 12 zeros)
      (then_sets out 0 8 (marked s) (bytes_of 4 s.value) marked_length
      ∙ ap (λ (l : List ℕ). sets l 8 (bytes_of 4 s.value)) (then_sets out 0 4 (fields s) (bytes_of 4 s.mark) refl)))
