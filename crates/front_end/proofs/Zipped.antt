-- Units beside their sources.
use Rattle.std.proofs.Common.{◌≡◌, ℕ, ◌+◌, ◌<◌, List, [], ◌∷◌, ◌++◌, take, length, Option, Some, None, get_or, sym, ap, ◌∙◌, subst, append_assoc, append-nil}
use Rattle.std.specs.Prelude.{slice_get, option_to_list}
use Rattle.std.specs.List.{AllZip}
use Rattle.std.proofs.lemmas.List.{take_more}
use Rattle.typed_tree.specs.declared.units.Unit.{Unit}
use Rattle.source_graph.specs.declared.sources.Source.{Source}
use Rattle.unit_interface.specs.declared.interfaces.Interface.{Interface}
use Rattle.front_end.specs.Typed.{sources_at, IsUnitOf}

at_push : (sources : List Source) (places : List ℕ) (place : ℕ) → sources_at sources (places ++ place ∷ []) ≡ sources_at sources places ++ option_to_list (slice_get sources place)
at_push sources [] place = append-nil (option_to_list (slice_get sources place))
at_push sources (p ∷ places) place =
    let front = option_to_list (slice_get sources p) in
    ap (λ (rest : List Source). front ++ rest) (at_push sources places place) ∙ sym (append_assoc front (sources_at sources places) (option_to_list (slice_get sources place)))

at_more : (sources : List Source) (places : List ℕ) (index place : ℕ) (found : Option Source) → index < length places → place ≡ get_or places index 0 → slice_get sources place ≡ found
    → sources_at sources (take (index + 1) places) ≡ sources_at sources (take index places) ++ option_to_list found
at_more sources places index place found below is at =
    ap (sources_at sources) (take_more places index 0 below ∙ ap (λ (p : ℕ). take index places ++ p ∷ []) (sym is)) ∙ at_push sources (take index places) place
    ∙ ap (λ (o : Option Source). sources_at sources (take index places) ++ option_to_list o) at

zip_push : (have : List Interface) (sources : List Source) (units : List Unit) (source : Source) (unit : Unit) → AllZip (IsUnitOf have) sources units → IsUnitOf have source unit
    → AllZip (IsUnitOf have) (sources ++ source ∷ []) (units ++ unit ∷ [])
zip_push have [] [] source unit all one = (one, tt)
zip_push have [] (u ∷ units) source unit all one = absurd all
zip_push have (s ∷ sources) [] source unit all one = absurd all
zip_push have (s ∷ sources) (u ∷ units) source unit all one = (all.0, zip_push have sources units source unit all.1 one)

-- the source at one place more has its unit
pub unit_more : (have : List Interface) (sources : List Source) (places : List ℕ) (index place : ℕ) (source : Source) (units : List Unit) (unit : Unit) → index < length places → place ≡ get_or places index 0
    → slice_get sources place ≡ Some source → AllZip (IsUnitOf have) (sources_at sources (take index places)) units → IsUnitOf have source unit
    → AllZip (IsUnitOf have) (sources_at sources (take (index + 1) places)) (units ++ unit ∷ [])
unit_more have sources places index place source units unit below is at all one =
    subst (λ (xs : List Source). AllZip (IsUnitOf have) xs (units ++ unit ∷ [])) (sym (at_more sources places index place (Some source) below is at))
    (zip_push have (sources_at sources (take index places)) units source unit all one)

-- at one place more there is no source
pub none_more : (have : List Interface) (sources : List Source) (places : List ℕ) (index place : ℕ) (units : List Unit) → index < length places → place ≡ get_or places index 0
    → slice_get sources place ≡ None → AllZip (IsUnitOf have) (sources_at sources (take index places)) units → AllZip (IsUnitOf have) (sources_at sources (take (index + 1) places)) units
none_more have sources places index place units below is at all =
    subst (λ (xs : List Source). AllZip (IsUnitOf have) xs units) (sym (at_more sources places index place None below is at ∙ append-nil (sources_at sources (take index places)))) all
