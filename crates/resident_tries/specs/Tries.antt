-- Trying a run of the resident machine by computation: a list of instructions is followed from a state, and each step tested.
use Rattle.std.specs.Prelude.{ℕ, zero, suc, ◌+◌, ◌==◌, drop, if◌then◌else◌, nat_lt, nat_le, ◌&&◌, not, Bool, true, false, List, [], ◌∷◌, Option, Some, None, is_some, Ok, Err}
use Rattle.x86_table.specs.declared.instr.Instr.{Instr}
use Rattle.x86_table.specs.Spelling.{spelling}
use Rattle.cpu_8086.specs.Memory.{address, next_offset}
use Rattle.frame_links.specs.Links.{Link, link_word, room_of, room_before}
use Rattle.resident_machine.specs.Program.{Program, code_of}
use Rattle.resident_machine.specs.Cells.{Cells, is_free, known_word, below}
use Rattle.resident_machine.specs.Effect.{Outcome, effect_of}
use Rattle.resident_machine.specs.Framed.{live_places, places_of}
use Rattle.resident_machine.specs.State.{ResidentStatus, Running, Ended, Stopped, ResidentState, Service, NoService, AtCall, AtReturn, AtClear}

-- an instruction to try, and the links that BP leads to where a service may follow
pub record Move : Type 0 where
  pub instruction : Instr
  pub links : List Link

abbrev pub rest_after : List ℕ → List ℕ → Option (List ℕ)
rest_after [] ys = Some ys
rest_after (x ∷ xs) [] = None
rest_after (x ∷ xs) (y ∷ ys) = if y == x then rest_after xs ys else None

abbrev pub stands_in : Option (List ℕ) → ℕ → Instr → Bool
stands_in None ip i = false
stands_in (Some code) ip i = is_some (rest_after (spelling i) (drop ip code))

abbrev pub if_some : Option ℕ → (ℕ → Bool) → Bool
if_some None f = false
if_some (Some n) f = f n

abbrev pub is_same : Bool → Bool → Bool
is_same true b = b
is_same false b = not b

abbrev pub are_links : Bool → Cells → ℕ → ℕ → List Link → Bool
are_links marked cells ss at [] = at == 0
are_links marked cells ss at (link ∷ links) =
    (at == link.at) && (nat_lt 0 link.at && (nat_le (link.at + room_of link.far) (room_before links)
    && if_some (known_word cells ss link.at) (λ word. is_same link.far (link_word marked word).far && are_links marked cells ss (link_word marked word).next links)))

abbrev pub are_same : List ℕ → List ℕ → Bool
are_same [] [] = true
are_same [] (y ∷ ys) = false
are_same (x ∷ xs) [] = false
are_same (x ∷ xs) (y ∷ ys) = (x == y) && are_same xs ys

abbrev pub misses : ℕ → ℕ → List Link → Bool
misses place ss [] = true
misses place ss (link ∷ links) = not (place == address ss link.at) && (not (place == address ss (next_offset link.at)) && misses place ss links)

abbrev pub is_spare : Program → ResidentState → List Link → ℕ → Bool
is_spare p r links place = is_free (r.cells place) && (not (place == p.installed) && misses place r.registers.ss links)

abbrev pub each_below : ℕ → (ℕ → Bool) → Bool
each_below zero f = true
each_below (suc n) f = f n && each_below n f

abbrev pub is_framed : Program → Bool → ResidentState → List Link → Bool
is_framed p pending r links =
    are_links p.marked r.cells r.registers.ss r.registers.bp links
    && (are_same (places_of r.records) (live_places pending r.registers.sp links)
    && (nat_le (r.registers.sp + 4) 65536
    && each_below 64 (λ k. is_spare p r links (below r.registers.ss r.registers.sp k))))

abbrev pub is_framed_after : Program → Service → ResidentState → List Link → Bool
is_framed_after p NoService r links = true
is_framed_after p AtCall r links = is_framed p true r links
is_framed_after p AtReturn r links = is_framed p false r links
is_framed_after p AtClear r links = is_framed p true r links

abbrev pub is_running : ResidentStatus → Bool
is_running Running = true
is_running (Ended code) = false
is_running (Stopped segment offset why) = false

abbrev pub came_to : Program → List Link → Outcome → Option ResidentState
came_to p links (Ok w) = if is_framed_after p w.1 w.0 links then Some w.0 else None
came_to p links (Err way) = None

abbrev pub tried : Program → Move → ResidentState → Option ResidentState
tried p m r =
    if is_running r.status && stands_in (code_of p r.cs) r.registers.ip m.instruction then came_to p m.links (effect_of p r m.instruction) else None

abbrev pub or_other : Option ResidentState → ResidentState → ResidentState
or_other None other = other
or_other (Some x) other = x

abbrev pub and_go : Option ResidentState → (ResidentState → Option ResidentState) → Option ResidentState
and_go None f = None
and_go (Some r) f = f r

abbrev pub followed : Program → List Move → ResidentState → Option ResidentState
followed p [] r = Some r
followed p (m ∷ ms) r = and_go (tried p m r) (λ t. followed p ms t)

-- ## Lists of moves

abbrev pub move : Instr → Move
move i = record { instruction = i; links = [] }

abbrev pub framed_move : Instr → List Link → Move
framed_move i links = record { instruction = i; links = links }

-- what holds of the state that was come to
abbrev pub test : (ResidentState → Bool) → Option ResidentState → Bool
test f None = false
test f (Some t) = f t
