-- Values, items and interfaces: what is read is spelled so, and what is spelled so is read again.
use Rattle.std.proofs.Common.{◌≡◌, ℕ, zero, suc, ◌+◌, ◌<◌, ◌≤◌, true, List, [], ◌∷◌, ◌++◌, length, Result, Ok, Err, refl, sym, ap, subst, ◌∙◌, arith, Bor}
use Rattle.std.specs.Prelude.{All, IsTrue, IfOk, nat_le}
use Rattle.std.specs.List.{flat_map}
use Rattle.std.proofs.lemmas.Bool.Decides.{nat_tests}
use Rattle.std.proofs.lemmas.List.Concat.{flat_map-cons}
use Rattle.type_layout.specs.Words.{IsName}
use Rattle.typed_tree.specs.declared.units.Item.{Item}
use Rattle.typed_tree.specs.declared.units.Item.TheVariants as item
use Rattle.typed_tree.specs.declared.expressions.Value.{Value}
use Rattle.typed_tree.specs.declared.expressions.Value.TheVariants as value
use Rattle.unit_interface.specs.declared.interfaces.Interface.{Interface}
use Rattle.object_file.specs.file_parts.Spelling.{long_text, bytes_text, FitInTurn, IsLong, IsSigned}
use Rattle.object_file.specs.declared.file_parts.error.PartError.{PartError}
use Rattle.object_file.specs.file_parts.Parts.{any, ruled, byte_at, Gives}
use Rattle.object_file.proofs.file_parts.Laws.{IsBytes, Takes, Meets, MadeOf, ok_is, fits_as, text_as, ruled_meets, followed_meets, then_meets, made_meets, record_meets}
use Rattle.object_file.proofs.file_parts.PartLaws.{byte_text, byte_meets, long_meets, bytes_meets, list_meets, tagged_meets}
use Rattle.object_file.proofs.file_parts.ValueLaws.{signed_meets, name_meets}
use Rattle.unit_file.specs.type_file.Text.{IsId, IsHeader}
use Rattle.unit_file.specs.type_file.Reading.{unread}
use Rattle.unit_file.proofs.type_file.HeaderLaws.{list_of_meets, id_below_meets, header_meets}
use Rattle.unit_file.proofs.type_file.EntryLaws.{types_meets, all-from_each}
use Rattle.unit_file.specs.interface_file.Text.{value_tag, value_parts, value_text, item_tag, item_parts, item_text, interface_text, IsElement, IsValue, IsItem, IsInterface, HasOptions}
use Rattle.unit_file.specs.interface_file.Reading.{elements_at, nothing_at, value_parts_at, value_at, const_of, ty_of, var_of, code_of, item_parts_at, item_at, interface_of, interface_at}

-- values
itself : (text : List ℕ) → text ≡ flat_map byte_text text
itself [] = refl
itself (byte ∷ text) = ap (λ (rest : List ℕ). byte ∷ rest) (itself text) ∙ sym (flat_map-cons byte_text byte text)

abbrev AreElements : List ℕ → Type 0
AreElements elements = IsLong (length elements) × FitInTurn IsElement (λ _ element. element + 1) 0 elements

element_meets : (least : ℕ) → Meets (ruled (nat_le least) byte_at) byte_text (IsElement least)
element_meets least =
    fits_as (IsElement least) (ruled_meets (nat_le least) byte_meets)
    (λ element fits. (grind (arith, nat_tests, fits.1), fits.0)) (λ element fits. (fits.1, grind (arith, nat_tests, fits.0)))

elements_meet : Meets elements_at bytes_text AreElements
unfolding elements_at
elements_meet =
    text_as bytes_text
    (fits_as AreElements (list_meets any (λ _ element. element + 1) 0 element_meets) (λ elements fits. (fits.0.0, fits.1)) (λ elements fits. ((fits.0, refl), fits.1)))
    (λ elements. ap (λ (text : List ℕ). long_text (length elements) ++ text) (itself elements))

nothing_meets : Meets nothing_at (λ _. []) (λ _. Unit {0})
nothing_meets = record {
  takes = λ bytes x fits e.
      let here : Unit {0} × List ℕ = (tt, bytes) in
      subst (λ (y : Unit {0} × List ℕ). Takes (λ _. []) (λ _. Unit {0}) bytes y) (ok_is here x e) (record { parts = refl; rest_fits = fits; fits = tt });
  again = λ a rest fits. refl;
}

abbrev FitsValue : ℕ → Value → Type 0
FitsValue tag one = (value_tag one ≡ tag) × IsValue one

number_from : (one : Value) → FitsValue 0 one → MadeOf value.Number IsSigned one
number_from (value.Number number) fits = record { parts = number; is_made = refl; fits = fits.1 }
number_from _ fits = absurd (omega (arith, fits.0))

chars_from : (one : Value) → FitsValue 1 one → MadeOf value.Chars (λ text. IsLong (length text) × IsTrue true) one
chars_from (value.Chars text) fits = record { parts = text; is_made = refl; fits = (fits.1, refl) }
chars_from _ fits = absurd (omega (arith, fits.0))

nil_from : (one : Value) → FitsValue 2 one → MadeOf (λ (_ : Unit {0}). value.Nil) (λ _. Unit {0}) one
nil_from value.Nil fits = record { parts = tt; is_made = refl; fits = tt }
nil_from _ fits = absurd (omega (arith, fits.0))

elements_from : (one : Value) → FitsValue 3 one → MadeOf value.Elements AreElements one
elements_from (value.Elements elements) fits = record { parts = elements; is_made = refl; fits = fits.1 }
elements_from _ fits = absurd (omega (arith, fits.0))

value_tag_below : (one : Value) → value_tag one < 4
value_tag_below (value.Number number) = omega arith
value_tag_below (value.Chars text) = omega arith
value_tag_below value.Nil = omega arith
value_tag_below (value.Elements elements) = omega arith

no_value_meets : (tag : ℕ) → 4 ≤ tag → Meets unread value_parts (FitsValue tag)
no_value_meets tag large = record {
  takes = λ bytes x fits e. absurd cc;
  again = λ one rest fits. absurd (let below = value_tag_below one in omega (arith, below, fits.0, large));
}

value_parts_meet : (tag : ℕ) → Meets (value_parts_at tag) value_parts (FitsValue tag)
value_parts_meet zero = made_meets value.Number value_parts (FitsValue 0) signed_meets (λ number fits. (refl, (refl, fits))) number_from
value_parts_meet (suc zero) = made_meets value.Chars value_parts (FitsValue 1) (bytes_meets any) (λ text fits. (refl, (refl, fits.0))) chars_from
value_parts_meet (suc (suc zero)) = made_meets (λ (_ : Unit {0}). value.Nil) value_parts (FitsValue 2) nothing_meets (λ _ fits. (refl, (refl, tt))) nil_from
value_parts_meet (suc (suc (suc zero))) = made_meets value.Elements value_parts (FitsValue 3) elements_meet (λ elements fits. (refl, (refl, fits))) elements_from
value_parts_meet (suc (suc (suc (suc tag)))) = no_value_meets (suc (suc (suc (suc tag)))) (omega arith)

value_meets : Meets value_at value_text IsValue
unfolding value_at value_text
value_meets = tagged_meets 4 value_tag (omega arith) value_tag_below value_parts_meet

-- items
abbrev FitsItem : ℕ → ℕ → Item → Type 0
FitsItem count tag one = (item_tag one ≡ tag) × IsItem count one

const_from : (count : ℕ) (one : Item) → FitsItem count 0 one → MadeOf const_of (λ parts. IsName parts.0 × (IsId count parts.1.0 × IsValue parts.1.1)) one
const_from count (item.Const name ty constant) fits = record { parts = (name, (ty, constant)); is_made = refl; fits = (fits.1.0, (fits.1.1, fits.1.2)) }
const_from count _ fits = absurd (omega (arith, fits.0))

ty_from : (count : ℕ) (one : Item) → FitsItem count 1 one → MadeOf ty_of (λ parts. IsName parts.0 × IsId count parts.1) one
ty_from count (item.Ty name ty) fits = record { parts = (name, ty); is_made = refl; fits = (fits.1.0, fits.1.1) }
ty_from count _ fits = absurd (omega (arith, fits.0))

var_from : (count : ℕ) (one : Item) → FitsItem count 2 one → MadeOf var_of (λ parts. IsName parts.0 × (IsId count parts.1.0 × IsLong parts.1.1)) one
var_from count (item.Var name ty number) fits = record { parts = (name, (ty, number)); is_made = refl; fits = (fits.1.0, (fits.1.1, fits.1.2)) }
var_from count _ fits = absurd (omega (arith, fits.0))

code_from : (count : ℕ) (one : Item) → FitsItem count 3 one → MadeOf code_of (λ parts. IsName parts.0 × (IsHeader count parts.1.0 × IsLong parts.1.1)) one
code_from count (item.Code name header number) fits = record { parts = (name, (header, number)); is_made = refl; fits = (fits.1.0, (fits.1.1, fits.1.2)) }
code_from count _ fits = absurd (omega (arith, fits.0))

item_tag_below : (one : Item) → item_tag one < 4
item_tag_below (item.Const name ty constant) = omega arith
item_tag_below (item.Ty name ty) = omega arith
item_tag_below (item.Var name ty number) = omega arith
item_tag_below (item.Code name header number) = omega arith

no_item_meets : (count tag : ℕ) → 4 ≤ tag → Meets unread item_parts (FitsItem count tag)
no_item_meets count tag large = record {
  takes = λ bytes x fits e. absurd cc;
  again = λ one rest fits. absurd (let below = item_tag_below one in omega (arith, below, fits.0, large));
}

item_parts_meet : (count tag : ℕ) → Meets (item_parts_at count tag) item_parts (FitsItem count tag)
item_parts_meet count zero =
    made_meets const_of item_parts (FitsItem count 0) (then_meets name_meets (then_meets (id_below_meets count) value_meets)) (λ parts fits. (refl, (refl, (fits.0, fits.1.0, fits.1.1)))) (const_from count)
item_parts_meet count (suc zero) = made_meets ty_of item_parts (FitsItem count 1) (then_meets name_meets (id_below_meets count)) (λ parts fits. (refl, (refl, fits))) (ty_from count)
item_parts_meet count (suc (suc zero)) =
    made_meets var_of item_parts (FitsItem count 2) (then_meets name_meets (then_meets (id_below_meets count) long_meets)) (λ parts fits. (refl, (refl, (fits.0, fits.1.0, fits.1.1)))) (var_from count)
item_parts_meet count (suc (suc (suc zero))) =
    made_meets code_of item_parts (FitsItem count 3) (then_meets name_meets (then_meets (header_meets count) long_meets)) (λ parts fits. (refl, (refl, (fits.0, fits.1.0, fits.1.1)))) (code_from count)
item_parts_meet count (suc (suc (suc (suc tag)))) = no_item_meets count (suc (suc (suc (suc tag)))) (omega arith)

item_meets : (count : ℕ) → Meets (item_at count) item_text (IsItem count)
unfolding item_at item_text
item_meets count = tagged_meets 4 item_tag (omega arith) item_tag_below (item_parts_meet count)

-- the interface
pub interface_meets : Meets interface_at interface_text IsInterface
unfolding interface_at interface_text
interface_meets =
    fits_as IsInterface
    (record_meets interface_of (λ interface. (interface.name, (interface.types, interface.items))) (λ interface. refl) (λ parts. refl)
    (then_meets name_meets (followed_meets types_meets (λ table. list_of_meets (item_meets (length table.types))))))
    (λ interface fits. record { name = fits.0; types = fits.1.0; items = fits.1.1.0; each_item = fits.1.1.1 })
    (λ interface fits. (fits.name, (fits.types, (fits.items, fits.each_item))))

-- what a function read
pub interface-found : (bytes : List ℕ) (r : Result (Interface × Bor (List ℕ)) PartError) → IsBytes bytes → Gives (λ (x : Interface × Bor (List ℕ)). (x.0, x.1.now)) r (interface_at bytes)
    → IfOk r (λ x. IsInterface x.0 × (bytes ≡ interface_text x.0 ++ x.1.now))
interface-found bytes (Ok x) fits given = let t = interface_meets.takes bytes (x.0, x.1.now) fits given in (t.fits, t.parts)
interface-found bytes (Err e) fits given = tt

-- what can be written
options-from_item : (count : ℕ) (one : Item) → IsItem count one → HasOptions one
options-from_item count (item.Code name header number) fits = fits.1.result.0
options-from_item count (item.Const name ty constant) fits = tt
options-from_item count (item.Ty name ty) fits = tt
options-from_item count (item.Var name ty number) fits = tt

pub options-from_interface : (interface : Interface) → IsInterface interface → All HasOptions interface.items
options-from_interface interface fits = all-from_each (IsItem (length interface.types.types)) HasOptions (options-from_item (length interface.types.types)) interface.items fits.each_item
