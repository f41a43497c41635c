-- What a folder holds after a write.
use Rattle.std.proofs.Common.{◌≡◌, List, ℕ, Some, Option, Bool, true, false, cond, ap, refl, ◌∙◌, bytes_eq}
use Rattle.std.proofs.Math.Path.{fun_ext}
use Rattle.std.specs.Map.{update}
use Rattle.std.specs.Option.{option_map}
use Rattle.std.proofs.lemmas.Slice.Eq.{bytes_eq-Decides}
use Rattle.tp_outside.specs.Folder.{Folder, with_file}

-- the file that was written holds what was written
pub with_file-same : (folder : Folder) (name bytes : List ℕ) → with_file folder name bytes name ≡ Some bytes
unfolding with_file
with_file-same folder name bytes = ap (λ same. cond same (Some bytes) (folder name)) ((bytes_eq-Decides name name).1 refl)

module _ {A : Type 0} (view : A → List ℕ) where
  -- a map from names in which a name got a value is the folder in which its file was written
  pub with_file-update : (old new : List ℕ → Option A) (name : List ℕ) (value : A) → ((other : List ℕ) → new other ≡ update bytes_eq old name (Some value) other) → ◌≡◌ {A = Folder} (λ other. option_map view (new other)) (with_file (λ other. option_map view (old other)) name (view value))
  unfolding with_file
  with_file-update old new name value sets = fun_ext (λ other. ap (option_map view) (sets other) ∙ either other (bytes_eq name other))
    where
      either : (other : List ℕ) (same : Bool) → option_map view (cond same (Some value) (old other)) ≡ cond same (Some (view value)) (option_map view (old other))
      either other true = refl
      either other false = refl
