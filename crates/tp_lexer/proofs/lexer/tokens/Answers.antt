use Rattle.std.proofs.Common.{false}
use Rattle.tp_lexer.specs.declared.state.State.{State}
use Rattle.tp_lexer.specs.Tokens.{Tokens, Breaks}
use Rattle.tp_lexer.specs.Acting.{Unless}
use Rattle.tp_lexer.proofs.Answered.{same_settings, list_found, fault_found, memory_only, same_fault}
use Rattle.tp_lexer.proofs.TokenLaws.{tokens_once, tokens_or_break}
use Rattle.tp_lexer.proofs.lexer.tokens.Goals as goal

pub returns-in-Ok-clause-found : goal.returns-in-Ok-clause-found
returns-in-Ok-clause-found c =
    let old : State = record { switches = record { r = false; b = false; f = false; o = false }; defined = c.in_ok-set_of.field-0; tokens = c.new.result } in
    let found : Tokens c.args.texts.now c.args.main c.args.defined.now c.from_vec.result = list_found _ _ _ old c.read_text.new.state (same_settings _ _ c.in_ok-set_of.ensures) c.from_vec.result c.new.ensures.items c.in-Ok.ensures c.from_vec.ensures in
    found

pub returns-in-Ok-clause-only : goal.returns-in-Ok-clause-only
returns-in-Ok-clause-only c =
    let old : State = record { switches = record { r = false; b = false; f = false; o = false }; defined = c.in_ok-set_of.field-0; tokens = c.new.result } in
    let found : Tokens c.args.texts.now c.args.main c.args.defined.now c.from_vec.result = list_found _ _ _ old c.read_text.new.state (same_settings _ _ c.in_ok-set_of.ensures) c.from_vec.result c.new.ensures.items c.in-Ok.ensures c.from_vec.ensures in
    λ list stands. tokens_once _ _ _ _ list found stands

pub returns-in-Ok-clause-no_list : goal.returns-in-Ok-clause-no_list
returns-in-Ok-clause-no_list c =
    let old : State = record { switches = record { r = false; b = false; f = false; o = false }; defined = c.in_ok-set_of.field-0; tokens = c.new.result } in
    let found : Tokens c.args.texts.now c.args.main c.args.defined.now c.from_vec.result = list_found _ _ _ old c.read_text.new.state (same_settings _ _ c.in_ok-set_of.ensures) c.from_vec.result c.new.ensures.items c.in-Ok.ensures c.from_vec.ensures in
    λ broken breaks. absurd (tokens_or_break _ _ _ _ broken found breaks)

pub returns-in-Err-clause-fault : goal.returns-in-Err-clause-fault
returns-in-Err-clause-fault c =
    let old : State = record { switches = record { r = false; b = false; f = false; o = false }; defined = c.in_ok-set_of.field-0; tokens = c.new.result } in
    let fault : Unless c.in-Err.error (Breaks c.args.texts.now c.args.main c.args.defined.now c.in-Err.error) = fault_found _ _ _ old c.read_text.new.state (same_settings _ _ c.in_ok-set_of.ensures) c.in-Err.error c.in-Err.ensures in
    fault

pub returns-in-Err-clause-only : goal.returns-in-Err-clause-only
returns-in-Err-clause-only c =
    let old : State = record { switches = record { r = false; b = false; f = false; o = false }; defined = c.in_ok-set_of.field-0; tokens = c.new.result } in
    let fault : Unless c.in-Err.error (Breaks c.args.texts.now c.args.main c.args.defined.now c.in-Err.error) = fault_found _ _ _ old c.read_text.new.state (same_settings _ _ c.in_ok-set_of.ensures) c.in-Err.error c.in-Err.ensures in
    λ list stands. memory_only _ _ _ c.in-Err.error list fault stands

pub returns-in-Err-clause-only_fault : goal.returns-in-Err-clause-only_fault
returns-in-Err-clause-only_fault c =
    let old : State = record { switches = record { r = false; b = false; f = false; o = false }; defined = c.in_ok-set_of.field-0; tokens = c.new.result } in
    let fault : Unless c.in-Err.error (Breaks c.args.texts.now c.args.main c.args.defined.now c.in-Err.error) = fault_found _ _ _ old c.read_text.new.state (same_settings _ _ c.in_ok-set_of.ensures) c.in-Err.error c.in-Err.ensures in
    λ broken breaks. same_fault _ _ _ c.in-Err.error broken fault breaks
