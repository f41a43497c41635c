use Rattle.std.proofs.Common.{sym, subst, All, List, ℕ, ◌<◌}
use Rattle.overlay_file.proofs.EntryLaws.{word_fixups}
use Rattle.overlay_file.proofs.writing.push_overlay.Goals as goal

pub push_words-requires : goal.push_words-requires
push_words-requires c =
    let P : List ℕ → Type 0 = λ words. All (λ word. word < 65536) words in
    subst P (sym c.as_slice-2.ensures) (word_fixups c.args.overlay.now c.requires)
