-- A string constant at the front of a text has a byte at least.
use Rattle.std.proofs.Common.{◌≡◌, ℕ, ◌+◌, ◌<◌, ◌≤◌, Bool, true, false, cond, ◌||◌, eqb, List, [], ◌∷◌, Option, Some, None, refl, arith}
use Rattle.std.specs.Option.{option_map_or}
use Rattle.tp_lexer.specs.Shapes.{constant_of, constant_from, next_part}
use Rattle.tp_lexer.specs.declared.shape.Extent.{Extent}
use Rattle.tp_lexer.specs.declared.constant.Part.{Part}
use Rattle.tp_lexer.specs.declared.constant.Part.TheVariants as p

pub constant_of-length : (part : Part) (n : ℕ) → (constant_of part n).length ≡ n
constant_of-length p.Start n = refl
constant_of-length p.Inside n = refl
constant_of-length p.Closed n = refl
constant_of-length p.Code n = refl
constant_of-length p.Decimal n = refl
constant_of-length p.Dollar n = refl
constant_of-length p.Hexadecimal n = refl

further : (n : ℕ) (f : Part → Extent) (o : Option Part) (d : Extent) → ((next : Part) → n ≤ (f next).length) → n ≤ d.length → n ≤ (option_map_or f o d).length
further n f None d more here = here
further n f (Some next) d more here = more next

pub constant_from-ge : (n : ℕ) (part : Part) (bytes : List ℕ) → n ≤ (constant_from n part bytes).length
constant_from-ge n part [] = omega (arith, constant_of-length part n)
constant_from-ge n part (c ∷ cs) =
    further n (λ next. constant_from (n + 1) next cs) (next_part part c) (constant_of part n)
    (λ next. let h = constant_from-ge (n + 1) next cs in omega arith)
    (let h = constant_of-length part n in omega arith)

begins : (a b : Bool) (f : Part → Extent) (d : Extent) → (a || b) ≡ true → ((next : Part) → 1 ≤ (f next).length) → 0 < (option_map_or f (cond a (Some p.Inside) (cond b (Some p.Code) None)) d).length
begins true b f d e more = let h = more p.Inside in omega arith
begins false true f d e more = let h = more p.Code in omega arith
begins false false f d e more = absurd (let h : false ≡ true = e in cc)

pub constant_positive : (c : ℕ) (cs : List ℕ) → (eqb c 39 || eqb c 35) ≡ true → 0 < (constant_from 0 p.Start (c ∷ cs)).length
constant_positive c cs opens = begins (eqb c 39) (eqb c 35) (λ next. constant_from 1 next cs) (constant_of p.Start 0) opens (λ next. constant_from-ge 1 next cs)
