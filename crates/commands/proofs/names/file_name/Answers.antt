use Rattle.std.proofs.Common.{◌≡◌, ap, sym, ◌∙◌, subst}
use Rattle.std.specs.Str.{IsUtf8}
use Rattle.std.proofs.lemmas.Str.{IsUtf8-from_ascii}
use Rattle.commands.specs.Files.{file_of}
use Rattle.commands.proofs.FileLaws.{file_name_ascii}
use Rattle.commands.proofs.names.file_name.Goals as goal

pub unreachable-requires-in-Err : goal.unreachable-requires-in-Err
unreachable-requires-in-Err c =
    let ascii = file_name_ascii c.args.name.now c.args.kind c.as_bytes.ensures.name in
    let same : file_of c.args.name.now c.args.kind ≡ c.as_slice.result.now = ap (λ n. file_of n c.args.kind) (sym c.as_bytes.ensures.value) ∙ sym c.file_name_bytes-bytes.ensures ∙ sym c.as_slice.ensures.value in
    c.in-Err.ensures.cases.0 (subst IsUtf8 same (IsUtf8-from_ascii _ ascii))
