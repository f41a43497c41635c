use Rattle.std.proofs.Common.{◌≡◌, ◌++◌, [], List, ℕ, ap, ap₂, ◌∙◌, subst, sym, arith}
use Rattle.mz_file.specs.Format.{Denotes}
use Rattle.mz_file.specs.Spelling.{header_words}
use Rattle.mz_file.specs.Words.{bytes_of_words, words_of_fars}
use Rattle.mz_file.proofs.SpellingLaws.{spelling-parts, denotes-spelling}
use Rattle.mz_file.proofs.writing.write_exe.Goals as goal

-- the parts were written one after another
pub returns-clause-exact : goal.returns-clause-exact
returns-clause-exact c =
    let exe = c.args.exe.now in
    let front : c.push_words.new.bytes ≡ [] ++ bytes_of_words (header_words exe) =
    c.in_ok-push_words.ensures ∙ ap₂ (λ old words. old ++ bytes_of_words words) c.new-bytes.ensures c.header.ensures in
    let words : c.push_words-2.new.bytes ≡ c.push_words.new.bytes ++ bytes_of_words exe.block.stubs =
    c.in_ok-push_words-2.ensures ∙ ap (λ words. c.push_words.new.bytes ++ bytes_of_words words) c.as_slice.ensures in
    let fars : c.push_fars.new.bytes ≡ c.push_words-2.new.bytes ++ bytes_of_words (words_of_fars exe.relocations) =
    c.in_ok-push_fars.ensures ∙ ap (λ fars. c.push_words-2.new.bytes ++ bytes_of_words (words_of_fars fars)) c.as_slice-2.ensures in
    let all : c.extend_from_slice.new.self ≡ c.push_zeros.new.bytes ++ exe.image =
    c.in_ok-extend_from_slice.ensures.ok ∙ ap (λ image. c.push_zeros.new.bytes ++ image) c.as_slice-3.ensures in
    spelling-parts exe _ _ _ _ _ _ front words fars (omega (arith, c.end_of_relocations-end.ensures)) c.in_ok-push_zeros.ensures all

pub returns-clause-denotes : goal.returns-clause-denotes
returns-clause-denotes c =
    let exe = c.args.exe.now in
    let P : List ℕ → Type 0 = λ bytes. Denotes bytes exe in
    subst P (sym (returns-clause-exact c)) (denotes-spelling exe c.requires)
