use Rattle.std.proofs.Common.{◌≡◌, ◌∙◌, ◌++◌, ◌∷◌, [], None, ap, sym}
use Rattle.indexmap.specs.IndexMap.{get}
use Rattle.indexmap.proofs.CallerLemmas.{insert_entry-new}
use Rattle.type_layout.specs.Words.{same_bytes}
use Rattle.scopes.specs.Symbols.{SymbolList}
use Rattle.scopes.proofs.SymbolLaws.{none_at}
use Rattle.scopes.proofs.symbols.Symbols.enter.Goals as goal

pub returns-in-Ok-clause-entered : goal.returns-in-Ok-clause-entered
returns-in-Ok-clause-entered c =
    let new : get same_bytes c.self.inside.map c.args.name ≡ None = none_at _ (sym c.contains_key.ensures ∙ c.if-contains_key.false) in
    c.in-Ok.ensures.entries ∙ insert_entry-new same_bytes c.self.inside.map c.args.name c.args.entry new
    ∙ ap (λ (symbols : SymbolList). symbols ++ (c.args.name, c.args.entry) ∷ []) c.self.view_is
