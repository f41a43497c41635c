use Rattle.std.proofs.Common.{ℕ, Vec, Global, string_bytes}
use Rattle.std.specs.BTreeMap.{get_by_text}
use Rattle.std.proofs.lemmas.Map.Text.{btree_map_updates_text}
use Rattle.tp_outside.proofs.FolderLaws.{with_file-update}
use Rattle.tp_outside.proofs.memory_files.MemoryFiles.put.Goals as goal

-- the map got the bytes at the name
pub returns-clause-held : goal.returns-clause-held
returns-clause-held c =
    let sets = btree_map_updates_text (string_bytes c.in_ok-name.name) c.args.self.now.files c.insert.new.self _ c.in_ok-insert.ensures.updates in
    let updated = with_file-update (λ (bytes : Vec ℕ Global). bytes.items) (get_by_text c.args.self.now.files) (get_by_text c.insert.new.self) (string_bytes c.in_ok-name.name) c.in_ok-bytes.bytes sets in
    rw (← c.in_ok-name.ensures.ok, ← c.in_ok-bytes.ensures.items) updated
