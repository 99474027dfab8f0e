-- 01, "Clients and states", a slot: what the calls that were not refused have made of it.
use Rattle.std.specs.Prelude.{ℕ, Bool, true, false, not, ◌&&◌, List, [], eqb}
use Rattle.octets.specs.Pick.{pick}
use Rattle.profile.specs.{Profile.kept_of_pool, declared.Profile.Profile}
use Rattle.client.specs.declared.ClientRecord.{ClientRecord}
use Rattle.events.specs.Events.{Event, on, off, «record», stop, cancel, start, abort, attach, enable, disable, report, lost, indication, client_abort, tick, answer, store, load, edition}
use Rattle.history.specs.Runs.{gather, is_done}

-- whether a client is there, whether it is wanted, its last report (0 disabled), its NAME and its pool
pub record Seat : Type 0 where
  pub taken : Bool
  pub wanted : Bool
  pub report : ℕ
  pub name : ℕ
  pub pool : List ℕ

abbrev pub empty_seat : Seat
empty_seat = record { taken = false; wanted = false; report = 0; name = 0; pool = [] }

-- "Attaching (state ready) takes a NAME and pool and fills an empty slot, wanted off, last report disabled."
abbrev pub filled_seat : ℕ → List ℕ → Seat
filled_seat name pool = record { taken = true; wanted = false; report = 0; name = name; pool = pool }

-- "Enabling and disabling (state ready) set wanted"
abbrev pub wanted_seat : Bool → Seat → Seat
wanted_seat wanted s = record { taken = s.taken; wanted = wanted; report = s.report; name = s.name; pool = s.pool }

-- "A lost client empties its slot; so does a wanted client that reports disabled after another report."
abbrev pub reported_seat : ℕ → Seat → Seat
reported_seat number s =
    pick (s.wanted && not (eqb s.report 0) && eqb number 0) empty_seat
    (record { taken = s.taken; wanted = s.wanted; report = number; name = s.name; pool = s.pool })

abbrev pub seat_by : ℕ → Seat → Event → Seat
seat_by slot s on = s
seat_by slot s off = s
seat_by slot s «record» = s
seat_by slot s stop = s
seat_by slot s cancel = s
seat_by slot s start = s
seat_by slot s abort = s
seat_by slot s (attach i name pool) = pick (eqb i slot) (filled_seat name pool) s
seat_by slot s (enable i out) = pick (eqb i slot) (wanted_seat true s) s
seat_by slot s (disable i out) = pick (eqb i slot) (wanted_seat false s) s
seat_by slot s (report i number) = pick (eqb i slot) (reported_seat number s) s
seat_by slot s (lost i) = pick (eqb i slot) empty_seat s
seat_by slot s (indication i msg out) = s
seat_by slot s (client_abort i msg) = s
seat_by slot s (tick mm out) = s
seat_by slot s (answer i msg out) = s
seat_by slot s (store out) = s
seat_by slot s (load blocks) = s
seat_by slot s (edition n) = s

abbrev pub seat_after : ℕ → List Event → Event → Seat → Seat
seat_after slot before e s = pick (is_done before e) (seat_by slot s e) s

abbrev pub seat_of : List Event → ℕ → Seat
seat_of events slot = gather (seat_after slot) empty_seat events

-- what is kept of its pool
abbrev pub pool_in : List Event → ℕ → Profile
pool_in events slot = kept_of_pool (seat_of events slot).pool

-- "NAME, master NAME and both labels are kept with each client"
abbrev pub client_in : List Event → ℕ → ClientRecord
client_in events slot = record {
  used = 1;
  name = (seat_of events slot).name;
  master = (pool_in events slot).master;
  version = (pool_in events slot).version;
  configuration = (pool_in events slot).configuration;
}
