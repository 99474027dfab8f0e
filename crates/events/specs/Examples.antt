-- That every number which a call's record names is given: for each call and number, calls after which the call gives it. So the record names exactly the
-- numbers that the call can give.
use Rattle.std.specs.Prelude.{ℕ, ◌≡◌, refl, List, [], ◌∷◌, ◌++◌, replicate}
use Rattle.pool.specs.Cases as pools
use Rattle.store.specs.Stored.{stored_of}
use Rattle.events.specs.Events.{Event, on, off, «record», stop, cancel, start, abort, attach, enable, disable, report, lost, indication, client_abort, tick, answer, store, load, edition, which_call, apply, run}

-- ---- a pool whose version label has n bytes: function 5 with state 2

abbrev pub function_bytes : List ℕ
function_bytes = 1 ∷ 0 ∷ 1 ∷ 5 ∷ 1 ∷ 0 ∷ [] ++ replicate 19 255 ++ 3 ∷ 0 ∷ 4 ∷ 0 ∷ 1 ∷ 2 ∷ 0 ∷ []

abbrev pub state_bytes : List ℕ
state_bytes = 2 ∷ 0 ∷ 2 ∷ 2 ∷ 3 ∷ 0 ∷ 4 ∷ 0 ∷ []

abbrev pub pool_bytes : ℕ → List ℕ
pool_bytes n = pools.base n 1 ++ function_bytes ++ state_bytes

-- the same function, with no state
abbrev pub stateless_pool : List ℕ
stateless_pool = pools.base 1 1 ++ pools.function

-- ---- messages of the client, and lent bytes

-- E.3, error 01
abbrev pub abort_message : List ℕ
abort_message = 0x31 ∷ 0xFF ∷ 0xFF ∷ 0x01 ∷ 0xFF ∷ 0xFF ∷ 0xFF ∷ 0xFF ∷ []

-- E.4, status 00, TAN 0, value 240
abbrev pub indication_message : List ℕ
indication_message = 0x32 ∷ 0x05 ∷ 0x02 ∷ 0x00 ∷ 0xF0 ∷ 0x00 ∷ 0x00 ∷ 0x00 ∷ []

-- E.7, status 10, no error, TAN 1
abbrev pub answer_message : List ℕ
answer_message = 0x34 ∷ 0x05 ∷ 0x82 ∷ 0x00 ∷ 0x01 ∷ 0xFF ∷ 0xFF ∷ 0xFF ∷ []

abbrev pub eight_bytes : List ℕ
eight_bytes = replicate 8 0

abbrev pub frame_buffer : List ℕ
frame_buffer = replicate 576 0

-- as many as a sequence of one client and one step has
abbrev pub three_blocks : List ℕ
three_blocks = replicate 1536 0

-- ---- calls, one after the other

-- a client of this NAME and pool is attached in slot 0, and the master off again
abbrev pub attached_run : List Event
attached_run = on ∷ attach 0 7 (pool_bytes 1) ∷ []

abbrev pub inactive_run : List Event
inactive_run = attached_run ++ off ∷ []

-- a client of this NAME and pool that reports ready
abbrev pub ready_client : ℕ → List ℕ → List Event
ready_client name bytes = attach 0 name bytes ∷ enable 0 eight_bytes ∷ report 0 1 ∷ []

abbrev pub ready_run : List Event
ready_run = on ∷ ready_client 7 (pool_bytes 1)

abbrev pub recording_run : List Event
recording_run = ready_run ++ «record» ∷ report 0 2 ∷ []

-- one step is recorded
abbrev pub recorded_run : List Event
recorded_run = recording_run ++ indication 0 indication_message eight_bytes ∷ stop ∷ report 0 1 ∷ []

-- the blocks of this sequence
abbrev pub stored_blocks : List ℕ
stored_blocks = stored_of (run recorded_run).sequence

abbrev pub playing_run : List Event
playing_run = recorded_run ++ start ∷ []

-- its command has left, with TAN 1
abbrev pub sent_run : List Event
sent_run = playing_run ++ tick 0 frame_buffer ∷ []

-- ---- the examples

-- calls, and after them this call, with some inputs
pub record Example (e : Event) : Type 0 where
  pub calls : List Event
  pub event : Event
  pub same_call : which_call event ≡ which_call e

abbrev by_calls : {e : Event} → (calls : List Event) (event : Event) → which_call event ≡ which_call e → Example e
by_calls calls event same = record { calls = calls; event = event; same_call = same }

-- the number that it gives
abbrev pub number_after : {e : Event} → Example e → ℕ
number_after x = (apply (run x.calls) x.event).number

-- for each number that the call can give, in their order
abbrev pub examples_of : (e : Event) → List (Example e)
examples_of on = by_calls [] on refl ∷ by_calls (on ∷ []) on refl ∷ []
examples_of off = by_calls (on ∷ []) off refl ∷ by_calls [] off refl ∷ by_calls ready_run off refl ∷ []
examples_of «record» =
    by_calls ready_run «record» refl ∷ by_calls [] «record» refl ∷ by_calls (on ∷ []) «record» refl
    ∷ by_calls (ready_run ++ report 0 4 ∷ []) «record» refl ∷ []
examples_of stop = by_calls recording_run stop refl ∷ by_calls [] stop refl ∷ []
examples_of cancel = by_calls recording_run cancel refl ∷ by_calls [] cancel refl ∷ []
examples_of start =
    by_calls recorded_run start refl ∷ by_calls [] start refl ∷ by_calls (on ∷ []) start refl ∷ by_calls (recorded_run ++ lost 0 ∷ []) start refl
    ∷ by_calls (recorded_run ++ lost 0 ∷ ready_client 8 (pool_bytes 1)) start refl
    ∷ by_calls (recorded_run ++ lost 0 ∷ ready_client 7 (pool_bytes 2)) start refl
    ∷ by_calls (recorded_run ++ lost 0 ∷ ready_client 7 stateless_pool) start refl ∷ by_calls (recorded_run ++ report 0 4 ∷ []) start refl ∷ []
examples_of abort = by_calls playing_run abort refl ∷ by_calls [] abort refl ∷ []
examples_of (attach slot name pool) =
    by_calls (on ∷ []) (attach 0 7 (pool_bytes 1)) refl ∷ by_calls attached_run (attach 1 7 (pool_bytes 1)) refl
    ∷ by_calls [] (attach 0 7 (pool_bytes 1)) refl ∷ by_calls (on ∷ []) (attach 0 7 []) refl ∷ []
examples_of (enable slot out) =
    by_calls attached_run (enable 0 eight_bytes) refl ∷ by_calls [] (enable 0 []) refl ∷ by_calls (on ∷ []) (enable 0 eight_bytes) refl
    ∷ by_calls inactive_run (enable 0 eight_bytes) refl ∷ []
examples_of (disable slot out) =
    by_calls attached_run (disable 0 eight_bytes) refl ∷ by_calls [] (disable 0 []) refl ∷ by_calls (on ∷ []) (disable 0 eight_bytes) refl
    ∷ by_calls inactive_run (disable 0 eight_bytes) refl ∷ []
examples_of (report slot number) =
    by_calls ready_run (report 0 1) refl ∷ by_calls [] (report 0 3) refl ∷ by_calls [] (report 0 0) refl ∷ by_calls inactive_run (report 0 0) refl
    ∷ by_calls attached_run (report 0 1) refl ∷ []
examples_of (lost slot) = by_calls attached_run (lost 0) refl ∷ by_calls [] (lost 0) refl ∷ by_calls inactive_run (lost 0) refl ∷ []
examples_of (indication slot msg out) =
    by_calls recording_run (indication 0 indication_message eight_bytes) refl ∷ by_calls [] (indication 0 indication_message []) refl
    ∷ by_calls [] (indication 0 answer_message eight_bytes) refl ∷ by_calls [] (indication 0 indication_message eight_bytes) refl
    ∷ by_calls inactive_run (indication 0 indication_message eight_bytes) refl
    ∷ by_calls attached_run (indication 0 indication_message eight_bytes) refl ∷ []
examples_of (client_abort slot msg) =
    by_calls playing_run (client_abort 0 abort_message) refl ∷ by_calls [] (client_abort 0 answer_message) refl
    ∷ by_calls [] (client_abort 0 abort_message) refl ∷ by_calls inactive_run (client_abort 0 abort_message) refl
    ∷ by_calls attached_run (client_abort 0 abort_message) refl ∷ []
examples_of (tick mm out) =
    by_calls (on ∷ []) (tick 0 frame_buffer) refl ∷ by_calls [] (tick 0 []) refl ∷ by_calls [] (tick 65536 frame_buffer) refl
    ∷ by_calls [] (tick 0 frame_buffer) refl ∷ []
examples_of (answer slot msg out) =
    by_calls sent_run (answer 0 answer_message eight_bytes) refl ∷ by_calls [] (answer 0 answer_message []) refl
    ∷ by_calls [] (answer 0 indication_message eight_bytes) refl ∷ by_calls [] (answer 0 answer_message eight_bytes) refl
    ∷ by_calls inactive_run (answer 0 answer_message eight_bytes) refl ∷ by_calls attached_run (answer 0 answer_message eight_bytes) refl ∷ []
examples_of (store out) =
    by_calls recorded_run (store three_blocks) refl ∷ by_calls recorded_run (store []) refl ∷ by_calls [] (store []) refl ∷ by_calls (on ∷ []) (store []) refl ∷ []
examples_of (load blocks) =
    by_calls (on ∷ []) (load stored_blocks) refl ∷ by_calls [] (load []) refl ∷ by_calls (on ∷ []) (load (replicate 512 0)) refl
    ∷ by_calls (on ∷ []) (load []) refl ∷ []
examples_of (edition n) =
    by_calls recorded_run (edition 2) refl ∷ by_calls [] (edition 2) refl ∷ by_calls (on ∷ []) (edition 2) refl ∷ by_calls recorded_run (edition 3) refl ∷ []
