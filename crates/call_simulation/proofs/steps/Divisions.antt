-- Finding a place and reading a result divide nothing.
use Rattle.std.proofs.Common.{◌≡◌, ℕ, zero, suc, ◌+◌, ◌∷◌, Option, Some, None, Ok, Err, refl}
use Rattle.flat_code.specs.declared.memory.Cell.{Cell}
use Rattle.flat_code.specs.declared.memory.Cell.TheVariants as flat
use Rattle.flat_code.specs.declared.memory.Place.{Place}
use Rattle.flat_code.specs.declared.memory.Trap.TheVariants.{ByZero, Bad}
use Rattle.flat_code.specs.declared.tree.Address.{Address}
use Rattle.flat_code.specs.declared.tree.Address.TheVariants.{Global, Local, Outer, Through}
use Rattle.flat_code.specs.declared.tree.FlatResult.{FlatResult}
use Rattle.flat_code.specs.Calls.{result_bytes}
use Rattle.flat_code.specs.Memory.{Cells, Found, ◌>>=◌, place_after, address_of, byte_in, word_at, far_at, bytes_at}
use Rattle.flat_code.specs.Program.{Choice, named}
use Rattle.flat_code.specs.Values.{Frame, stack_place, linked, if_placed, place_of}
use Rattle.statement_simulation.proofs.expressions.States.{word_no_division}

pub bind_no : {A B : Type 0} (found : Found A) (go : A → Found B) → (found ≡ Err ByZero → ⊥) → ((v : A) → go v ≡ Err ByZero → ⊥) → (found >>= go) ≡ Err ByZero → ⊥
bind_no (Ok v) go a b e = b v e
bind_no (Err ByZero) go a b e = a refl
bind_no (Err (Bad cause)) go a b e = absurd (cc)

pub placed_no : {A : Type 0} (o : Option A) → if_placed o ≡ Err ByZero → ⊥
placed_no None e = absurd (cc)
placed_no (Some v) e = absurd (cc)

linked_no : (choice : Choice) (m : Cells) (levels at : ℕ) → linked choice m levels at ≡ Err ByZero → ⊥
linked_no choice m zero at e = absurd (cc)
linked_no choice m (suc levels) at e =
    let q : Place = record { segment = choice.stack_segment; offset = at } in
    bind_no (word_at m q) (λ up. linked choice m levels up) (word_no_division m q) (λ up h. linked_no choice m levels up h) e

pub place_no_division : (choice : Choice) (f : Frame) (m : Cells) (a : Address) → place_of choice f m a ≡ Err ByZero → ⊥
place_no_division choice f m (Global unit number plus) e =
    bind_no ((if_placed (named f.unit f.names unit) >>= λ name. Ok (record { unit = name; number = number })) >>= λ key. if_placed (choice.datum key) >>= λ offset. Ok (record { segment = choice.data_segment; offset = offset })) (λ p. Ok (place_after p plus))
    (λ h. bind_no (if_placed (named f.unit f.names unit) >>= λ name. Ok (record { unit = name; number = number })) (λ key. if_placed (choice.datum key) >>= λ offset. Ok (record { segment = choice.data_segment; offset = offset }))
    (λ k. bind_no (if_placed (named f.unit f.names unit)) (λ name. Ok (record { unit = name; number = number })) (placed_no (named f.unit f.names unit)) (λ name z. absurd (cc)) k)
    (λ key k. bind_no (if_placed (choice.datum key)) (λ offset. Ok (record { segment = choice.data_segment; offset = offset })) (placed_no (choice.datum key)) (λ offset z. absurd (cc)) k) h)
    (λ p h. absurd (cc)) e
place_no_division choice f m (Local at) e = absurd (cc)
place_no_division choice f m (Outer levels at) e = bind_no (linked choice m levels f.link) (λ link. Ok (stack_place choice link at)) (linked_no choice m levels f.link) (λ link h. absurd (cc)) e
place_no_division choice f m (Through slot plus) e =
    let q = stack_place choice f.bp slot in
    bind_no (far_at m q) (λ p. Ok (place_after p plus))
    (λ h. bind_no (word_at m q) (λ offset. word_at m (place_after q 2) >>= λ segment. Ok (record { segment = segment; offset = offset })) (word_no_division m q)
    (λ offset k. bind_no (word_at m (place_after q 2)) (λ segment. Ok (record { segment = segment; offset = offset })) (word_no_division m (place_after q 2)) (λ segment z. absurd (cc)) k) h)
    (λ p h. absurd (cc)) e

bytes_no_division : (n i : ℕ) (m : Cells) (q : Place) → bytes_at m q i n ≡ Err ByZero → ⊥
bytes_no_division zero i m q e = absurd (cc)
bytes_no_division (suc n) i m q e = bind_no (byte_in (m (address_of q i))) (λ b. bytes_at m q (i + 1) n >>= λ bs. Ok (b ∷ bs)) (byte_no (m (address_of q i))) (λ b h. bind_no (bytes_at m q (i + 1) n) (λ bs. Ok (b ∷ bs)) (bytes_no_division n (i + 1) m q) (λ bs z. absurd (cc)) h) e
  where
    byte_no : (x : Cell) → byte_in x ≡ Err ByZero → ⊥
    byte_no (flat.Known b) h = absurd (cc)
    byte_no flat.Unset h = absurd (cc)
    byte_no flat.Outside h = absurd (cc)

pub result_no_division : (choice : Choice) (f : Frame) (m : Cells) (result : Option FlatResult) → result_bytes choice f m result ≡ Err ByZero → ⊥
result_no_division choice f m None e = absurd (cc)
result_no_division choice f m (Some result) e = bind_no (place_of choice f m result.at) (λ p. bytes_at m p 0 result.bytes) (place_no_division choice f m result.at) (λ p h. bytes_no_division result.bytes 0 m p h) e
