use Rattle.rt_strings.proofs.string_search.Searching.{searches}
use Rattle.rt_strings.proofs.string_search.search_laws.Goals as goal

pub returns : goal.returns
returns c = searches
