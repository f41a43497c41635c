use Rattle.std.proofs.Common.{◌++◌, ◌<◌, ◌≤◌, Err, length, ◌∙◌, ap, subst, take, drop, List, ℕ, arith, append_assoc}
use Rattle.tp_lexer.specs.declared.token.Token.{Token}
use Rattle.tp_lexer.specs.declared.condition.Condition.{Condition}
use Rattle.tp_lexer.specs.Grammar.{Takes}
use Rattle.tp_lexer.specs.Effects.{is_read}
use Rattle.tp_lexer.specs.Tokens.{Outcome, preceded, ended, Reads, IncludesAt}
use Rattle.tp_lexer.specs.Acting.{settings_of, context_of}
use Rattle.tp_lexer.proofs.Leads.{Whole, leads_end}
use Rattle.tp_lexer.proofs.Including.{unless_then, reads_whole}
use Rattle.tp_lexer.proofs.Reading.{Taken, taken_within, taken_some, moved_on, leads_on, stops_whole, at_end}
use Rattle.tp_lexer.proofs.reader.+reader.Goals as goal

pub read_text-returns-in-Err : goal.read_text-returns-in-Err
read_text-returns-in-Err t c =
    let taken : Taken c.args.number c.text_at-bytes.result.now c.loop-position.position (context_of c.loop-position.state c.loop-position.conditions.items) c.split_at.result.1.now c.split_at-in-loop-position.result.0.now c.extent_at-extent.result c.loop-position.place = record {
      below = c.loop-position.invariant.within;
      rest_is = c.split_at.ensures.back;
      longest = subst (λ (x : List Condition). Takes (is_read x) c.extent_at-extent.result.shape (take c.extent_at-extent.result.length c.split_at.result.1.now) (drop c.extent_at-extent.result.length c.split_at.result.1.now)) c.as_slice.ensures.value c.extent_at-extent.ensures.longest;
      within = c.extent_at-extent.ensures.within;
      spelling_is = c.split_at-in-loop-position.ensures.front;
      place_is = c.loop-position.invariant.place;
    } in
    let now = settings_of c.args.state.now in
    let error : Outcome = Err c.in-Err.error in
    unless_then c.in-Err.error _ (Reads c.args.depth c.args.texts.now c.args.number now error)
    (λ stops. reads_whole c.args.depth c.args.texts.now c.args.number now error
    (subst (λ (bytes : List ℕ). Whole (IncludesAt c.args.depth c.args.texts.now) c.args.number bytes now error) c.text_at-bytes.ensures
    (stops_whole taken (IncludesAt c.args.depth c.args.texts.now) now c.loop-position.invariant.emitted c.loop-position.invariant.leads c.in-Err.error stops)))
    c.in-Err.ensures

pub read_text-loop-position-smaller : goal.read_text-loop-position-smaller
read_text-loop-position-smaller t c =
    let taken : Taken c.args.number c.text_at-bytes.result.now c.loop-position.position (context_of c.loop-position.state c.loop-position.conditions.items) c.split_at.result.1.now c.split_at-in-loop-position.result.0.now c.extent_at-extent.result c.loop-position.place = record {
      below = c.loop-position.invariant.within;
      rest_is = c.split_at.ensures.back;
      longest = subst (λ (x : List Condition). Takes (is_read x) c.extent_at-extent.result.shape (take c.extent_at-extent.result.length c.split_at.result.1.now) (drop c.extent_at-extent.result.length c.split_at.result.1.now)) c.as_slice.ensures.value c.extent_at-extent.ensures.longest;
      within = c.extent_at-extent.ensures.within;
      spelling_is = c.split_at-in-loop-position.ensures.front;
      place_is = c.loop-position.invariant.place;
    } in
    let some : 0 < c.extent_at-extent.result.length = taken_some taken in
    omega arith

pub read_text-loop-position-preserved : goal.read_text-loop-position-preserved
read_text-loop-position-preserved t c =
    let taken : Taken c.args.number c.text_at-bytes.result.now c.loop-position.position (context_of c.loop-position.state c.loop-position.conditions.items) c.split_at.result.1.now c.split_at-in-loop-position.result.0.now c.extent_at-extent.result c.loop-position.place = record {
      below = c.loop-position.invariant.within;
      rest_is = c.split_at.ensures.back;
      longest = subst (λ (x : List Condition). Takes (is_read x) c.extent_at-extent.result.shape (take c.extent_at-extent.result.length c.split_at.result.1.now) (drop c.extent_at-extent.result.length c.split_at.result.1.now)) c.as_slice.ensures.value c.extent_at-extent.ensures.longest;
      within = c.extent_at-extent.ensures.within;
      spelling_is = c.split_at-in-loop-position.ensures.front;
      place_is = c.loop-position.invariant.place;
    } in
    let gained = c.in-Ok.ensures in
    record {
      within = taken_within taken;
      place = moved_on taken c.moved_over-place.result c.moved_over-place.ensures;
      emitted = c.loop-position.invariant.emitted ++ gained.0;
      tokens = gained.2 ∙ ap (λ (tokens : List Token). tokens ++ gained.0) c.loop-position.invariant.tokens ∙ append_assoc _ c.loop-position.invariant.emitted gained.0;
      leads = leads_on taken (IncludesAt c.args.depth c.args.texts.now) (settings_of c.args.state.now) c.loop-position.invariant.emitted c.loop-position.invariant.leads c.advance.new.state c.advance.new.conditions.items gained.0 gained.1;
    }

pub read_text-returns : goal.read_text-returns
read_text-returns t c =
    let now = settings_of c.args.state.now in
    let state = c.loop-position.state in
    let conditions = c.loop-position.conditions.items in
    let emitted = c.loop-position.invariant.emitted in
    let last : Outcome = preceded emitted (ended conditions (settings_of state)) in
    let past : length c.text_at-bytes.result.now ≤ c.loop-position.position = c.loop-position-test.false in
    let whole = leads_end (IncludesAt c.args.depth c.args.texts.now) c.args.number c.text_at-bytes.result.now now c.loop-position.position (context_of state conditions) emitted past c.loop-position.invariant.leads in
    let reads : Reads c.args.depth c.args.texts.now c.args.number now last = reads_whole c.args.depth c.args.texts.now c.args.number now last (subst (λ (bytes : List ℕ). Whole (IncludesAt c.args.depth c.args.texts.now) c.args.number bytes now last) c.text_at-bytes.ensures whole) in
    at_end (Reads c.args.depth c.args.texts.now c.args.number now) c.args.state.now state conditions emitted c.ended.result reads c.loop-position.invariant.tokens (rw c.as_slice-2.ensures.value at c.ended.ensures)
