-- Pieces of strings, and where a part stands.
use Rattle.std.proofs.Common.{◌≡◌, ◌≢◌, ℕ, zero, suc, ◌+◌, ◌-◌, ◌<◌, ◌≤◌, Bool, true, false, cond, ℤ, List, [], ◌∷◌, ◌++◌, length, take, drop, append_assoc, refl, sym, ap, ◌∙◌, subst, arith}
use Rattle.std.specs.Prelude.{nat_eq}
use Rattle.std.specs.List.{starts_with}
use Rattle.std.specs.declared.cmp.Ordering.{Ordering}
use Rattle.std.specs.declared.cmp.Ordering.TheVariants.{Less, Equal, Greater}
use Rattle.std.specs.Ordering.{nat_cmp, ordering_then}
use Rattle.std.proofs.lemmas.Bool.Decides.{Decides-eqb, nat_tests}
use Rattle.std.proofs.lemmas.Cmp.{nat_list_cmp_total, nat_cmp_total, tied_itself}
use Rattle.std.proofs.lemmas.List.{length-take, length-drop, length-append, length-take-le, take-append-drop, take_all, take_at, drop_at, take-take}
use Rattle.std.proofs.lemmas.Slice.Eq.{starts_is}
use Rattle.common_values.specs.Strings.{longest, bytes_before, place_from, position_of, compared}
use Rattle.common_values.specs.StringLaws.{LeavesOut, PieceLaws, StandsBehind, PositionLaws, JoinLaws, OrderLaws}

-- ---- pieces

halves : (text : List ℕ) (n k : ℕ) → k ≡ n → take n text ++ take (length text) (drop k text) ≡ text
halves text n k e =
    let l = length-drop n text in
    let short : length (drop n text) ≤ length text = omega arith in
    rw (e, take_all (length text) (drop n text) short) (take-append-drop n text)

whole : (text : List ℕ) (k m : ℕ) → text ≡ take k text ++ (take m (drop k text) ++ drop m (drop k text))
whole text k m = sym (ap (λ (l : List ℕ). take k text ++ l) (take-append-drop m (drop k text)) ∙ take-append-drop k text)

deletes : (text : List ℕ) (place count : ℤ) → LeavesOut text place count
deletes text place count = record {
  before = take (bytes_before place) text;
  behind = _;
  whole = whole text (bytes_before place) _;
  left = refl;
  at = length-take (bytes_before place) text;
}

cut_twice : (m room : ℕ) (text : List ℕ) → (length (take room (take m text)) ≤ room) × (length (take room (take m text)) ≤ m)
cut_twice m room text =
    let outer = length-take room (take m text) in
    let inner = length-take m text in
    (omega arith, omega arith)

undone : (m : ℕ) (part text : List ℕ) (n k room : ℕ) → k ≡ n → n ≤ length text → length part + length text ≤ room → room ≤ m
    → take k (take room (take m (take k text ++ (part ++ drop k text)))) ++ drop (length part) (drop k (take room (take m (take k text ++ (part ++ drop k text))))) ≡ text
undone m part text n k room e h fits small =
    let inside : k ≤ length text = omega arith in
    let front = length-take-le k text inside in
    let back = length-drop k text in
    let all = length-append (take k text) (part ++ drop k text) in
    let parts = length-append part (drop k text) in
    let short : length (take k text ++ (part ++ drop k text)) ≤ room = omega arith in
    let shorter : length (take k text ++ (part ++ drop k text)) ≤ m = omega arith in
    rw (take_all m _ shorter, take_all room _ short, take_at (take k text) (part ++ drop k text) k front, drop_at (take k text) (part ++ drop k text) k front, drop_at part (drop k text) (length part) refl) (take-append-drop k text)

pub piece_laws : PieceLaws
piece_laws = record {
  halves = λ text n. halves text n (n + 1 - 1) (omega arith);
  deletes = deletes;
  room = λ part text place room. cut_twice longest room (take (bytes_before place) text ++ part ++ drop (bytes_before place) text);
  undone = λ part text n room h fits small.
      subst (λ (l : List ℕ). take (n + 1 - 1) (take room (take longest l)) ++ drop (length part) (drop (n + 1 - 1) (take room (take longest l))) ≡ text)
      (sym (append_assoc (take (n + 1 - 1) text) part (drop (n + 1 - 1) text))) (undone longest part text n (n + 1 - 1) room (omega arith) h fits small);
}

-- ---- where a part stands

starts-true : (text part : List ℕ) → starts_with nat_eq text part ≡ true → text ≡ part ++ drop (length part) text
starts-true text part h = (starts_is Decides-eqb text part (starts_with nat_eq text part) refl).0 h

starts-from : (text part behind : List ℕ) → text ≡ part ++ behind → starts_with nat_eq text part ≡ true
starts-from text part behind e = (starts_is Decides-eqb text part (starts_with nat_eq text part) refl).1 behind e

record IsFound (place : ℕ) (part text : List ℕ) (q : ℕ) : Type 0 where
  after : place ≤ q
  stands : StandsBehind (q - place) part text

one_on : (place q b : ℕ) (part text : List ℕ) → IsFound (place + 1) part text q → IsFound place part (b ∷ text) q
one_on place q b part text f =
    let after = f.after in
    let at = f.stands.at in
    record {
      after = omega arith;
      stands = record {
        before = b ∷ f.stands.before;
        behind = f.stands.behind;
        whole = ap (λ (l : List ℕ). b ∷ l) f.stands.whole;
        at = omega arith;
      };
    }

found_by : (place b : ℕ) (part text : List ℕ) (v : Bool) → starts_with nat_eq (b ∷ text) part ≡ v → (0 < place_from (place + 1) part text → IsFound (place + 1) part text (place_from (place + 1) part text)) → 0 < cond v place (place_from (place + 1) part text) → IsFound place part (b ∷ text) (cond v place (place_from (place + 1) part text))
found_by place b part text true e ih h = record {
  after = omega arith;
  stands = record { before = []; behind = drop (length part) (b ∷ text); whole = starts-true (b ∷ text) part e; at = omega arith };
}
found_by place b part text false e ih h = one_on place (place_from (place + 1) part text) b part text (ih h)

found : (place : ℕ) (part text : List ℕ) → 0 < place_from place part text → IsFound place part text (place_from place part text)
found place part [] h = absurd (omega arith)
found place part (b ∷ text) h = found_by place b part text (starts_with nat_eq (b ∷ text) part) refl (found (place + 1) part text) h

found_first : (part text : List ℕ) → 0 < position_of part text → StandsBehind (position_of part text - 1) part text
found_first [] text h = absurd (omega arith)
found_first (b ∷ part) text h = (found 1 (b ∷ part) text h).stands

not_after_by : (place b n : ℕ) (part text before behind : List ℕ) (v : Bool) → starts_with nat_eq (b ∷ text) part ≡ v → 0 < place → b ∷ text ≡ before ++ (part ++ behind) → length before ≡ n
    → ((k : ℕ) (front : List ℕ) → text ≡ front ++ (part ++ behind) → length front ≡ k → (0 < place_from (place + 1) part text) × (place_from (place + 1) part text ≤ place + 1 + k))
    → (0 < cond v place (place_from (place + 1) part text)) × (cond v place (place_from (place + 1) part text) ≤ place + n)
not_after_by place b n part text before behind true e p w at ih = (p, omega arith)
not_after_by place b n part text [] behind false e p w at ih = absurd (let t = starts-from (b ∷ text) part behind w in cc)
not_after_by place b n part text (c ∷ before) behind false e p w at ih =
    let rest : text ≡ before ++ (part ++ behind) = cc in
    let r = ih (length before) before rest refl in
    (r.0, let r1 = r.1 in omega arith)

nothing_around : (before part behind : List ℕ) → [] ≡ before ++ (part ++ behind) → part ≡ []
nothing_around [] [] behind e = refl
nothing_around [] (b ∷ part) behind e = absurd cc
nothing_around (c ∷ before) part behind e = absurd cc

not_after : (place n : ℕ) (part text before behind : List ℕ) → part ≢ [] → 0 < place → text ≡ before ++ (part ++ behind) → length before ≡ n → (0 < place_from place part text) × (place_from place part text ≤ place + n)
not_after place n part [] before behind some p w at = absurd (some (nothing_around before part behind w))
not_after place n part (b ∷ text) before behind some p w at =
    not_after_by place b n part text before behind (starts_with nat_eq (b ∷ text) part) refl p w at (λ k front e l. not_after (place + 1) k part text front behind some (omega arith) e l)

first : (part text : List ℕ) (n : ℕ) → part ≢ [] → StandsBehind n part text → (0 < position_of part text) × (position_of part text ≤ n + 1)
first [] text n some s = absurd (some refl)
first (b ∷ part) text n some s =
    let r = not_after 1 n (b ∷ part) text s.before s.behind some (omega arith) s.whole s.at in
    let r1 = r.1 in
    (r.0, omega arith)

pub position_laws : PositionLaws
position_laws = record { empty = λ text. refl; found = found_first; first = first }

-- ---- the search, place by place

pub place_more : (place b : ℕ) (part text rest : List ℕ) (whole : ℕ) → text ≡ b ∷ rest → starts_with nat_eq text part ≡ false → place_from place part text ≡ whole → place_from (place + 1) part rest ≡ whole
place_more place b part text rest whole e t h =
    let test : starts_with nat_eq (b ∷ rest) part ≡ false = ap (λ (l : List ℕ). starts_with nat_eq l part) (sym e) ∙ t in
    let on : place_from place part (b ∷ rest) ≡ place_from (place + 1) part rest = rw test refl in
    sym on ∙ ap (place_from place part) (sym e) ∙ h

pub place_here : (place b : ℕ) (part text rest : List ℕ) (whole : ℕ) → text ≡ b ∷ rest → starts_with nat_eq text part ≡ true → place_from place part text ≡ whole → place ≡ whole
place_here place b part text rest whole e t h =
    let test : starts_with nat_eq (b ∷ rest) part ≡ true = ap (λ (l : List ℕ). starts_with nat_eq l part) (sym e) ∙ t in
    let here : place_from place part (b ∷ rest) ≡ place = rw test refl in
    sym here ∙ ap (place_from place part) (sym e) ∙ h

pub position-some : (part text : List ℕ) → nat_eq (length part) 0 ≡ false → position_of part text ≡ place_from 1 part text
position-some [] text h = absurd cc
position-some (b ∷ part) text h = refl

-- ---- one string behind another

cut-left : (m : ℕ) (x y : List ℕ) → take m (take m x ++ y) ≡ take m (x ++ y)
cut-left zero x y = refl
cut-left (suc m) [] y = refl
cut-left (suc m) (b ∷ x) y = ap (λ (l : List ℕ). b ∷ l) (cut-left m x y)

cut-right : (k m : ℕ) (x y : List ℕ) → k ≤ m → take k (x ++ take m y) ≡ take k (x ++ y)
cut-right k m [] y h = take-take k m y h
cut-right zero m (b ∷ x) y h = refl
cut-right (suc k) m (b ∷ x) y h = ap (λ (l : List ℕ). b ∷ l) (cut-right k m x y (omega arith))

pub join_laws : JoinLaws
join_laws = record {
  left = λ a b c. cut-left longest (a ++ b) c ∙ ap (take longest) (append_assoc a b c);
  right = λ a b c. cut-right longest longest a (b ++ c) (omega arith);
}

-- ---- order

number-equal : (x y : ℕ) → nat_cmp x y ≡ Equal → x ≡ y
number-equal x y e = grind (arith, nat_tests)

then-equal : (o p : Ordering) → ordering_then o p ≡ Equal → (o ≡ Equal) × (p ≡ Equal)
then-equal Less p e = absurd cc
then-equal Equal p e = (refl, e)
then-equal Greater p e = absurd cc

cons-equal : (x y : ℕ) (xs ys : List ℕ) → x ≡ y → xs ≡ ys → x ∷ xs ≡ y ∷ ys
cons-equal x y xs ys e f = cc

equal : (a b : List ℕ) → compared a b ≡ Equal → a ≡ b
equal [] [] e = refl
equal [] (y ∷ b) e = absurd cc
equal (x ∷ a) [] e = absurd cc
equal (x ∷ a) (y ∷ b) e =
    let parts = then-equal (nat_cmp x y) (compared a b) e in
    cons-equal x y a b (number-equal x y parts.0) (equal a b parts.1)

proper_prefix : (a b : List ℕ) (byte : ℕ) → compared a (a ++ byte ∷ b) ≡ Less
proper_prefix [] b byte = refl
proper_prefix (x ∷ a) b byte = rw (tied_itself nat_cmp_total x) (proper_prefix a b byte)

pub order_laws : OrderLaws
order_laws = record { total = nat_list_cmp_total; equal = equal; proper_prefix = proper_prefix }
