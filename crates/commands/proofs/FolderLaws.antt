-- The folder with the files of a program that was compiled.
use Rattle.std.proofs.Common.{◌≡◌, ℕ, List, [], ◌∷◌, arith, Option, None, Some, Bool, true, false, cond, map, refl, sym, ap, ◌∙◌, bytes_eq}
use Rattle.std.specs.Char.{to_ascii_lowercase}
use Rattle.std.specs.Option.{option_or}
use Rattle.std.proofs.lemmas.List.{append_cancel_left}
use Rattle.std.proofs.lemmas.Slice.Eq.{bytes_eq-Decides}
use Rattle.tp_outside.specs.Folder.{Folder, with_file, with_known_file}
use Rattle.tp_outside.proofs.FolderLaws.{with_file-same}
use Rattle.back_end.specs.declared.files.ProgramFiles.{ProgramFiles}
use Rattle.commands.specs.declared.names.FileKind.TheVariants.{Executable, Overlays}
use Rattle.commands.specs.Compiled.{with_overlays, with_files, with_known_files}
use Rattle.commands.specs.Files.{file_of, extension}

-- a file of another name is as it was
other_file : (folder : Folder) (name bytes other : List ℕ) → (name ≡ other → ⊥) → with_file folder name bytes other ≡ folder other
unfolding with_file
other_file folder name bytes other differ = by (bytes_eq name other) refl
  where
    by : (same : Bool) → bytes_eq name other ≡ same → cond same (Some bytes) (folder other) ≡ folder other
    by true is = absurd (differ ((bytes_eq-Decides name other).0 is))
    by false is = refl

-- the letter behind the dot of an extension
abbrev letter : List ℕ → ℕ
letter [] = 0
letter (dot ∷ []) = 0
letter (dot ∷ (first ∷ rest)) = first

no_overlays : (name : List ℕ) → file_of name Executable ≡ file_of name Overlays → ⊥
no_overlays name same =
    let ends : extension Executable ≡ extension Overlays = append_cancel_left (map to_ascii_lowercase name) (extension Executable) (extension Overlays) same in
    let letters : 101 ≡ 111 = ap letter ends in
    omega (arith, letters)

-- the executable is the one that was written
executable_behind : (folder : Folder) (name bytes : List ℕ) (overlays : Option (List ℕ)) → with_overlays (with_file folder (file_of name Executable) bytes) name overlays (file_of name Executable) ≡ Some bytes
executable_behind folder name bytes None = with_file-same folder (file_of name Executable) bytes
executable_behind folder name bytes (Some overlays) =
    other_file (with_file folder (file_of name Executable) bytes) (file_of name Overlays) overlays (file_of name Executable) (λ same. no_overlays name (sym same))
    ∙ with_file-same folder (file_of name Executable) bytes

pub executable_there : (folder : Folder) (name : List ℕ) (files : ProgramFiles) → with_files folder name files (file_of name Executable) ≡ Some files.executable
executable_there folder name files = executable_behind folder name files.executable files.overlays

-- so is the overlay file, where there are overlays, and else it is the one that was there
overlays_behind : (folder : Folder) (name bytes : List ℕ) (overlays : Option (List ℕ))
    → with_overlays (with_file folder (file_of name Executable) bytes) name overlays (file_of name Overlays) ≡ option_or overlays (folder (file_of name Overlays))
overlays_behind folder name bytes None = other_file folder (file_of name Executable) bytes (file_of name Overlays) (no_overlays name)
overlays_behind folder name bytes (Some overlays) = with_file-same (with_file folder (file_of name Executable) bytes) (file_of name Overlays) overlays

pub overlays_there : (folder : Folder) (name : List ℕ) (files : ProgramFiles) → with_files folder name files (file_of name Overlays) ≡ option_or files.overlays (folder (file_of name Overlays))
overlays_there folder name files = overlays_behind folder name files.executable files.overlays

-- one write after the other
pub both_written : (known : Option Folder) (name overlays : List ℕ) (files : ProgramFiles) → files.overlays ≡ Some overlays
    → with_known_file (with_known_file known (file_of name Executable) files.executable) (file_of name Overlays) overlays ≡ with_known_files known name files
both_written None name overlays files is = refl
both_written (Some folder) name overlays files is =
    ap (λ (o : Option (List ℕ)). Some (with_overlays (with_file folder (file_of name Executable) files.executable) name o)) (sym is)

pub one_written : (known : Option Folder) (name : List ℕ) (files : ProgramFiles) → files.overlays ≡ None → with_known_file known (file_of name Executable) files.executable ≡ with_known_files known name files
one_written None name files is = refl
one_written (Some folder) name files is =
    ap (λ (o : Option (List ℕ)). Some (with_overlays (with_file folder (file_of name Executable) files.executable) name o)) (sym is)
