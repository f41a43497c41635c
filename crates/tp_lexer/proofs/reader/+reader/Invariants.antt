use Rattle.std.proofs.Common.{length, take, List, ◌-◌, ◌≡◌, ◌≤◌, ◌+◌, ◌*◌, ◌++◌}
use Rattle.tp_lexer.specs.declared.token.Token.{Token}
use Rattle.tp_lexer.specs.Places.{place_after}
use Rattle.tp_lexer.specs.Tokens.{IncludesAt}
use Rattle.tp_lexer.specs.Acting.{settings_of, context_of}
use Rattle.tp_lexer.proofs.Leads.{Leads}
use Rattle.tp_lexer.proofs.reader.+reader.Given as goal

abbrev pub decreases-advance : goal.decreases-advance
decreases-advance l = 3 * l.depth + 1

abbrev pub decreases-include : goal.decreases-include
decreases-include l = 3 * l.depth

abbrev pub decreases-read_text : goal.decreases-read_text
decreases-read_text l = 3 * l.depth + 2

abbrev pub invariant-read_text-loop-position : goal.invariant-read_text-loop-position
invariant-read_text-loop-position l = record {
  within : l.position ≤ length l.bytes;
  place : l.place ≡ place_after l.number (take l.position l.bytes);
  emitted : List Token;
  tokens : l.state.tokens.items ≡ l.fn.state.tokens.items ++ emitted;
  leads : Leads (IncludesAt l.depth l.texts) l.number l.bytes (settings_of l.fn.state) l.position (context_of l.state l.conditions.items) emitted;
}

abbrev pub decreases-read_text-loop-position : goal.decreases-read_text-loop-position
decreases-read_text-loop-position l = length l.bytes - l.position
