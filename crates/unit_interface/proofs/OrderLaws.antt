-- An order has no unit twice, and ends with its start.
use Rattle.std.proofs.Common.{◌≡◌, ℕ, zero, suc, Bool, true, false, ◌||◌, cond, List, [], ◌∷◌, ◌++◌, get_or, refl, sym, ap, ◌∙◌, subst, ◌⊎◌, inl, inr, nat_eq, eqb-true, eq-eqb, append_assoc, append-nil}
use Rattle.std.specs.List.{list_any}
use Rattle.std.proofs.lemmas.List.Folds.{list_any-append}
use Rattle.unit_interface.specs.declared.visits.Progress.{Progress}
use Rattle.unit_interface.specs.Order.{meet, finish, visit_each, visit, repeats}
use Rattle.unit_interface.proofs.CircleLaws.{one_true, or_right}

abbrev pub IsIn : ℕ → List ℕ → Type 0
IsIn q places = list_any (nat_eq q) places ≡ true

abbrev pub IsOut : ℕ → List ℕ → Type 0
IsOut q places = list_any (nat_eq q) places ≡ false

pub contrary : {A : Type 0} (b : Bool) → b ≡ true → b ≡ false → A
contrary b holds fails = absurd (cc)

pub decided : (b : Bool) → (b ≡ true → b ≡ false) → b ≡ false
decided true h = h refl
decided false h = refl

pub in_append : (q : ℕ) (xs ys : List ℕ) → IsIn q (xs ++ ys) → IsIn q xs ⊎ IsIn q ys
in_append q xs ys h = one_true (list_any (nat_eq q) xs) (list_any (nat_eq q) ys) (sym (list_any-append (nat_eq q) xs ys) ∙ h)

pub in_left : (q : ℕ) (xs ys : List ℕ) → IsIn q xs → IsIn q (xs ++ ys)
in_left q xs ys h = list_any-append (nat_eq q) xs ys ∙ ap (λ (b : Bool). b || list_any (nat_eq q) ys) h

pub in_right : (q : ℕ) (xs ys : List ℕ) → IsIn q ys → IsIn q (xs ++ ys)
in_right q xs ys h = list_any-append (nat_eq q) xs ys ∙ or_right (list_any (nat_eq q) xs) (list_any (nat_eq q) ys) h

pub in_one : (q : ℕ) → IsIn q (q ∷ [])
in_one q = ap (λ (b : Bool). b || false) (eq-eqb q q refl)

pub only_one : (q place : ℕ) → IsIn q (place ∷ []) → q ≡ place
only_one q place h = elim (one_true (nat_eq q place) false h) [ inl same ↦ eqb-true q place same | inr never ↦ contrary false never refl ]

pub both_false : (a b : Bool) → (a || b) ≡ false → (a ≡ false) × (b ≡ false)
both_false true b h = absurd (cc)
both_false false b h = (refl, h)

pub neither : (a b : Bool) → a ≡ false → b ≡ false → (a || b) ≡ false
neither true b h k = absurd (cc)
neither false b h k = k

-- two lists without a place twice, and none in both
pub no_repeat-append : (xs ys : List ℕ) → repeats xs ≡ false → repeats ys ≡ false → ((q : ℕ) → IsIn q xs → IsOut q ys) → repeats (xs ++ ys) ≡ false
no_repeat-append [] ys one other apart = other
no_repeat-append (x ∷ xs) ys one other apart =
    let both = both_false (list_any (nat_eq x) xs) (repeats xs) one in
    let here : IsIn x (x ∷ xs) = in_left x (x ∷ []) xs (in_one x) in
    neither (list_any (nat_eq x) (xs ++ ys)) (repeats (xs ++ ys))
    (list_any-append (nat_eq x) xs ys ∙ neither (list_any (nat_eq x) xs) (list_any (nat_eq x) ys) both.0 (apart x here))
    (no_repeat-append xs ys both.1 other (λ q h. apart q (in_right q (x ∷ []) xs h)))

-- what a visit leaves: new places behind those that were finished, none of which was met before
pub record IsAfter (before after : Progress) : Type 0 where
  pub new : List ℕ
  pub is : after.order ≡ before.order ++ new
  pub fresh : (q : ℕ) → IsIn q new → IsOut q before.met
  pub kept : (q : ℕ) → IsIn q before.met → IsIn q after.met
  pub met : (q : ℕ) → IsIn q new → IsIn q after.met
  pub once : repeats new ≡ false

unfoldable pub stays : (p : Progress) → IsAfter p p
stays p = record {
  new = [];
  is = sym (append-nil p.order);
  fresh = λ q h. contrary false h refl;
  kept = λ q h. h;
  met = λ q h. contrary false h refl;
  once = refl;
}

unfoldable pub then_after : (p q r : Progress) → IsAfter p q → IsAfter q r → IsAfter p r
then_after p q r one two = record {
  new = one.new ++ two.new;
  is = two.is ∙ ap (λ (xs : List ℕ). xs ++ two.new) one.is ∙ append_assoc p.order one.new two.new;
  fresh = λ x h. elim (in_append x one.new two.new h) [
    | inl first ↦ one.fresh x first
    | inr second ↦ decided (list_any (nat_eq x) p.met) (λ known. contrary (list_any (nat_eq x) q.met) (one.kept x known) (two.fresh x second))
  ];
  kept = λ x h. two.kept x (one.kept x h);
  met = λ x h. elim (in_append x one.new two.new h) [ inl first ↦ two.kept x (one.met x first) | inr second ↦ two.met x second ];
  once = no_repeat-append one.new two.new one.once two.once
      (λ x h. decided (list_any (nat_eq x) two.new) (λ again. contrary (list_any (nat_eq x) q.met) (one.met x h) (two.fresh x again)));
}

-- a unit that was not met, round the visits of the units that it uses
unfoldable pub finished : (p visited : Progress) (place : ℕ) → IsOut place p.met → IsAfter (meet place p) visited → IsAfter p (finish place visited)
finished p visited place out a = record {
  new = a.new ++ place ∷ [];
  is = ap (λ (xs : List ℕ). xs ++ place ∷ []) a.is ∙ append_assoc p.order a.new (place ∷ []);
  fresh = λ q h. elim (in_append q a.new (place ∷ []) h) [
    | inl inner ↦ decided (list_any (nat_eq q) p.met) (λ known. contrary (list_any (nat_eq q) (p.met ++ place ∷ [])) (in_left q p.met (place ∷ []) known) (a.fresh q inner))
    | inr last ↦ subst (λ (z : ℕ). IsOut z p.met) (sym (only_one q place last)) out
  ];
  kept = λ q h. a.kept q (in_left q p.met (place ∷ []) h);
  met = λ q h. elim (in_append q a.new (place ∷ []) h) [
    | inl inner ↦ a.met q inner
    | inr last ↦ a.kept q (in_right q p.met (place ∷ []) last)
  ];
  once = no_repeat-append a.new (place ∷ []) a.once refl
      (λ q h. decided (list_any (nat_eq q) (place ∷ [])) (λ last. contrary (list_any (nat_eq q) (p.met ++ place ∷ [])) (in_right q p.met (place ∷ []) last) (a.fresh q h)));
}

each_after : (one : Progress → ℕ → Progress) → ((p : Progress) (place : ℕ) → IsAfter p (one p place))
    → (p : Progress) (places : List ℕ) → IsAfter p (visit_each one p places)
each_after one after p [] = stays p
each_after one after p (place ∷ places) =
    then_after p (one p place) (visit_each one (one p place) places) (after p place) (each_after one after (one p place) places)

by_test : (p new : Progress) (b : Bool) → (b ≡ false → IsAfter p new) → IsAfter p (cond b p new)
by_test p new true after = stays p
by_test p new false after = after refl

pub visit_after : (edges : List (List ℕ)) (room : ℕ) (p : Progress) (place : ℕ) → IsAfter p (visit room edges p place)
visit_after edges zero p place = stays p
visit_after edges (suc room) p place =
    by_test p (finish place (visit_each (visit room edges) (meet place p) (get_or edges place []))) (list_any (nat_eq place) p.met)
    (λ out. finished p (visit_each (visit room edges) (meet place p) (get_or edges place [])) place out
    (each_after (visit room edges) (visit_after edges room) (meet place p) (get_or edges place [])))
