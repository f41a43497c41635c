use Rattle.std.proofs.Common.{◌≡◌, ℕ, List, ◌++◌, codes, ap, sym, ◌∙◌, subst}
use Rattle.std.specs.Str.{IsUtf8}
use Rattle.std.proofs.lemmas.Str.{IsUtf8-from_ascii}
use Rattle.back_end.proofs.OverlayNames.{overlay_ascii}
use Rattle.back_end.proofs.setting.overlay_file.Goals as goal

pub unreachable-requires-in-Err : goal.unreachable-requires-in-Err
unreachable-requires-in-Err c =
    let front : c.push_bytes.new.name.items ≡ c.args.name.now = c.push_bytes.ensures ∙ ap (λ (bytes : List ℕ). bytes ++ c.as_bytes.result.now) c.new-bytes.ensures ∙ c.as_bytes.ensures.value in
    let same : c.as_slice.result.now ≡ c.args.name.now ++ codes ".OVR" = c.as_slice.ensures.value ∙ c.push_bytes-2.ensures ∙ ap (λ (bytes : List ℕ). bytes ++ codes ".OVR") front in
    c.in-Err.ensures.cases.0 (subst IsUtf8 (sym same) (IsUtf8-from_ascii _ (overlay_ascii c.args.name.now c.as_bytes.ensures.name)))
