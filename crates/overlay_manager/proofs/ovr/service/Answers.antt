use Rattle.std.proofs.Common.{◌≡◌, ℕ, false, List, Some, sym, ap, subst, ◌∙◌}
use Rattle.tp_outside.specs.Folder.{Folder, bytes_of}
use Rattle.overlay_manager.specs.declared.traps.Trap.{Trap}
use Rattle.overlay_manager.specs.Manager.{Manager}
use Rattle.overlay_manager.specs.Orderly.{IsOrderlyFor}
use Rattle.overlay_manager.specs.Reads.{StubsRead}
use Rattle.overlay_manager.specs.Serves.{Serves, CodeStands, IsStanding, table_after}
use Rattle.overlay_manager.specs.Service.{seats_after, served, served_manager, serviced, serviced_manager}
use Rattle.overlay_manager.specs.Stops.{FileHas}
use Rattle.overlay_manager.specs.Traps.{trap_of, is_refused}
use Rattle.overlay_manager.proofs.JoinLaws.{at-trap, if-trap, serviced-is, serviced-manager-is}
use Rattle.overlay_manager.proofs.ovr.service.Goals as goal

pub returns-clause-machine : goal.returns-clause-machine
returns-clause-machine g c =
    let inside : Manager = record {
      name = c.ovr.inside.program.name;
      entries = c.ovr.inside.program.entries;
      stubs = c.ovr.inside.program.stubs.items;
      error_routine = c.ovr.inside.error_routine;
      installed = c.ovr.inside.installed;
      marked = c.ovr.inside.program.marked;
      ring = c.ovr.inside.ring;
      retry = c.ovr.inside.retry;
      tally = c.ovr.inside.tally;
    } in
    let m = c.args.ovr.now in
    let s = c.args.machine.now in
    let trap = c.in-Some.trap in
    let known = g.F.Files.folder c.args.files.now in
    let result = c.serve.result in
    let u = c.serve.new.machine in
    let found_inside : trap_of inside.stubs s ≡ Some trap = sym (c.trap_of.ensures.trap ∙ ap (λ (stubs : List ℕ). trap_of stubs s) c.deref.ensures.value) ∙ c.in-Some.is in
    let served_inside : is_refused inside.installed s trap ≡ false = sym c.is_refused.ensures ∙ c.if-is_refused.false in
    let found = subst (λ (n : Manager). trap_of n.stubs s ≡ Some trap) c.ovr.view_is found_inside in
    let served_it = subst (λ (n : Manager). is_refused n.installed s trap ≡ false) c.ovr.view_is served_inside in
    let P : Folder → Type 0 = λ held. u ≡ served m (bytes_of held m.name) trap s in
    let Q : Manager → Folder → Trap → Type 0 = λ n held trap. u ≡ serviced n (bytes_of held n.name) trap s in
    at-trap known result (trap_of m.stubs s) trap P (Q m) found (λ held it. it ∙ serviced-is m (bytes_of held m.name) trap s served_it) c.serve.ensures.machine

pub returns-clause-manager : goal.returns-clause-manager
returns-clause-manager g c =
    let inside : Manager = record {
      name = c.ovr.inside.program.name;
      entries = c.ovr.inside.program.entries;
      stubs = c.ovr.inside.program.stubs.items;
      error_routine = c.ovr.inside.error_routine;
      installed = c.ovr.inside.installed;
      marked = c.ovr.inside.program.marked;
      ring = c.ovr.inside.ring;
      retry = c.ovr.inside.retry;
      tally = c.ovr.inside.tally;
    } in
    let m = c.args.ovr.now in
    let s = c.args.machine.now in
    let trap = c.in-Some.trap in
    let known = g.F.Files.folder c.args.files.now in
    let result = c.serve.result in
    let u = c.serve.new.machine in
    let found_inside : trap_of inside.stubs s ≡ Some trap = sym (c.trap_of.ensures.trap ∙ ap (λ (stubs : List ℕ). trap_of stubs s) c.deref.ensures.value) ∙ c.in-Some.is in
    let served_inside : is_refused inside.installed s trap ≡ false = sym c.is_refused.ensures ∙ c.if-is_refused.false in
    let found = subst (λ (n : Manager). trap_of n.stubs s ≡ Some trap) c.ovr.view_is found_inside in
    let served_it = subst (λ (n : Manager). is_refused n.installed s trap ≡ false) c.ovr.view_is served_inside in
    let later = c.serve.new.self in
    let P : Folder → Type 0 = λ held. later ≡ served_manager m (bytes_of held m.name) trap s in
    let Q : Manager → Folder → Trap → Type 0 = λ n held trap. later ≡ serviced_manager n (bytes_of held n.name) trap s in
    at-trap known result (trap_of m.stubs s) trap P (Q m) found (λ held it. it ∙ serviced-manager-is m (bytes_of held m.name) trap s served_it) c.serve.ensures.manager

pub returns-clause-serves : goal.returns-clause-serves
returns-clause-serves g c =
    let inside : Manager = record {
      name = c.ovr.inside.program.name;
      entries = c.ovr.inside.program.entries;
      stubs = c.ovr.inside.program.stubs.items;
      error_routine = c.ovr.inside.error_routine;
      installed = c.ovr.inside.installed;
      marked = c.ovr.inside.program.marked;
      ring = c.ovr.inside.ring;
      retry = c.ovr.inside.retry;
      tally = c.ovr.inside.tally;
    } in
    let m = c.args.ovr.now in
    let s = c.args.machine.now in
    let trap = c.in-Some.trap in
    let known = g.F.Files.folder c.args.files.now in
    let result = c.serve.result in
    let u = c.serve.new.machine in
    let found_inside : trap_of inside.stubs s ≡ Some trap = sym (c.trap_of.ensures.trap ∙ ap (λ (stubs : List ℕ). trap_of stubs s) c.deref.ensures.value) ∙ c.in-Some.is in
    let served_inside : is_refused inside.installed s trap ≡ false = sym c.is_refused.ensures ∙ c.if-is_refused.false in
    let found = subst (λ (n : Manager). trap_of n.stubs s ≡ Some trap) c.ovr.view_is found_inside in
    let served_it = subst (λ (n : Manager). is_refused n.installed s trap ≡ false) c.ovr.view_is served_inside in
    let P : Folder → Type 0 = λ held. IsOrderlyFor m s trap.call → Serves m (bytes_of held m.name) trap s u in
    let Q : Manager → Folder → Trap → Type 0 = λ n held trap. is_refused n.installed s trap ≡ false → IsOrderlyFor n s trap.call → Serves n (bytes_of held n.name) trap s u in
    if-trap known result (trap_of m.stubs s) trap P (Q m) found (λ held it not_refused orderly. it orderly) c.serve.ensures.serves

pub returns-clause-code : goal.returns-clause-code
returns-clause-code g c =
    let inside : Manager = record {
      name = c.ovr.inside.program.name;
      entries = c.ovr.inside.program.entries;
      stubs = c.ovr.inside.program.stubs.items;
      error_routine = c.ovr.inside.error_routine;
      installed = c.ovr.inside.installed;
      marked = c.ovr.inside.program.marked;
      ring = c.ovr.inside.ring;
      retry = c.ovr.inside.retry;
      tally = c.ovr.inside.tally;
    } in
    let m = c.args.ovr.now in
    let s = c.args.machine.now in
    let trap = c.in-Some.trap in
    let known = g.F.Files.folder c.args.files.now in
    let result = c.serve.result in
    let u = c.serve.new.machine in
    let found_inside : trap_of inside.stubs s ≡ Some trap = sym (c.trap_of.ensures.trap ∙ ap (λ (stubs : List ℕ). trap_of stubs s) c.deref.ensures.value) ∙ c.in-Some.is in
    let served_inside : is_refused inside.installed s trap ≡ false = sym c.is_refused.ensures ∙ c.if-is_refused.false in
    let found = subst (λ (n : Manager). trap_of n.stubs s ≡ Some trap) c.ovr.view_is found_inside in
    let served_it = subst (λ (n : Manager). is_refused n.installed s trap ≡ false) c.ovr.view_is served_inside in
    let P : Folder → Type 0 = λ held. IsOrderlyFor m s trap.call → IsStanding m (bytes_of held m.name) s.memory → CodeStands (bytes_of held m.name) m.entries (table_after m trap s) u.memory in
    let Q : Manager → Folder → Trap → Type 0 = λ n held trap. is_refused n.installed s trap ≡ false → IsOrderlyFor n s trap.call → IsStanding n (bytes_of held n.name) s.memory → CodeStands (bytes_of held n.name) n.entries (table_after n trap s) u.memory in
    if-trap known result (trap_of m.stubs s) trap P (Q m) found (λ held it not_refused orderly standing. it orderly standing) c.serve.ensures.code

pub returns-clause-whole : goal.returns-clause-whole
returns-clause-whole g c =
    let inside : Manager = record {
      name = c.ovr.inside.program.name;
      entries = c.ovr.inside.program.entries;
      stubs = c.ovr.inside.program.stubs.items;
      error_routine = c.ovr.inside.error_routine;
      installed = c.ovr.inside.installed;
      marked = c.ovr.inside.program.marked;
      ring = c.ovr.inside.ring;
      retry = c.ovr.inside.retry;
      tally = c.ovr.inside.tally;
    } in
    let m = c.args.ovr.now in
    let s = c.args.machine.now in
    let trap = c.in-Some.trap in
    let known = g.F.Files.folder c.args.files.now in
    let result = c.serve.result in
    let u = c.serve.new.machine in
    let found_inside : trap_of inside.stubs s ≡ Some trap = sym (c.trap_of.ensures.trap ∙ ap (λ (stubs : List ℕ). trap_of stubs s) c.deref.ensures.value) ∙ c.in-Some.is in
    let served_inside : is_refused inside.installed s trap ≡ false = sym c.is_refused.ensures ∙ c.if-is_refused.false in
    let found = subst (λ (n : Manager). trap_of n.stubs s ≡ Some trap) c.ovr.view_is found_inside in
    let served_it = subst (λ (n : Manager). is_refused n.installed s trap ≡ false) c.ovr.view_is served_inside in
    let P : Folder → Type 0 = λ held. FileHas m (bytes_of held m.name) trap s in
    let Q : Manager → Folder → Trap → Type 0 = λ n held trap. is_refused n.installed s trap ≡ false → FileHas n (bytes_of held n.name) trap s in
    if-trap known result (trap_of m.stubs s) trap P (Q m) found (λ held it not_refused. it) c.serve.ensures.whole

pub returns-clause-stubs : goal.returns-clause-stubs
returns-clause-stubs g c =
    let inside : Manager = record {
      name = c.ovr.inside.program.name;
      entries = c.ovr.inside.program.entries;
      stubs = c.ovr.inside.program.stubs.items;
      error_routine = c.ovr.inside.error_routine;
      installed = c.ovr.inside.installed;
      marked = c.ovr.inside.program.marked;
      ring = c.ovr.inside.ring;
      retry = c.ovr.inside.retry;
      tally = c.ovr.inside.tally;
    } in
    let m = c.args.ovr.now in
    let s = c.args.machine.now in
    let trap = c.in-Some.trap in
    let known = g.F.Files.folder c.args.files.now in
    let result = c.serve.result in
    let u = c.serve.new.machine in
    let found_inside : trap_of inside.stubs s ≡ Some trap = sym (c.trap_of.ensures.trap ∙ ap (λ (stubs : List ℕ). trap_of stubs s) c.deref.ensures.value) ∙ c.in-Some.is in
    let served_inside : is_refused inside.installed s trap ≡ false = sym c.is_refused.ensures ∙ c.if-is_refused.false in
    let found = subst (λ (n : Manager). trap_of n.stubs s ≡ Some trap) c.ovr.view_is found_inside in
    let served_it = subst (λ (n : Manager). is_refused n.installed s trap ≡ false) c.ovr.view_is served_inside in
    let P : Folder → Type 0 = λ held. IsOrderlyFor m s trap.call → StubsRead m s.memory u.memory (seats_after m trap s) in
    let Q : Manager → Folder → Trap → Type 0 = λ n held trap. is_refused n.installed s trap ≡ false → IsOrderlyFor n s trap.call → StubsRead n s.memory u.memory (seats_after n trap s) in
    if-trap known result (trap_of m.stubs s) trap P (Q m) found (λ held it not_refused orderly. it orderly) c.serve.ensures.stubs
