use Rattle.std.proofs.Common.{◌≡◌, ℕ, List, length, drop, map, IfSome, refl, sym, ap, ap₂, subst, ◌∙◌, arith}
use Rattle.std.proofs.lemmas.List.{take_at}
use Rattle.tp_outside.specs.Folder.{bytes_of}
use Rattle.return_repair.specs.declared.table.Loaded.{Loaded}
use Rattle.overlay_manager.specs.declared.tally.Tally.{Tally}
use Rattle.overlay_manager.specs.Loading.{load_count}
use Rattle.overlay_manager.specs.Manager.{Manager}
use Rattle.overlay_manager.specs.Orderly.{IsOrderlyFor}
use Rattle.overlay_manager.specs.Reads.{StubsRead}
use Rattle.overlay_manager.specs.Serves.{Serves, CodeStands, IsStanding, table_after}
use Rattle.overlay_manager.specs.Service.{seats_after, served, served_manager}
use Rattle.overlay_manager.specs.Stops.{StopsServing, StopsShort, FileHas}
use Rattle.overlay_manager.proofs.JoinLaws.{made, machine-joined, manager-joined, whole-joined, within-joined, stop-joined, short-joined}
use Rattle.overlay_manager.proofs.ServeLaws.{serves-told, code-told}
use Rattle.overlay_manager.proofs.StubsLaws.{stubs-told}
use Rattle.overlay_manager.proofs.TableLaws.{stubs-table_from, length-table_from}
use Rattle.overlay_manager.proofs.ovr.Ovr.serve.Goals as goal

abbrev stubs : List Loaded → List ℕ
stubs table = map (λ (overlay : Loaded). overlay.stub) table

pub live-requires : goal.live-requires
live-requires g c =
    let old = ap length (c.deref.ensures.value ∙ c.set_table.ensures.table) ∙ length-table_from _ _ 0 _ in
    let all = ap length c.as_slice-stubs.ensures.value in
    let flags = ap length c.deref_mut.ensures.value in
    flags ∙ sym c.self.invariant.7 ∙ sym all ∙ sym old

pub bring-requires-clause-stubs : goal.bring-requires-clause-stubs
bring-requires-clause-stubs g c =
    let old = ap stubs c.set_table.ensures.table ∙ stubs-table_from _ _ 0 _ in
    let new = ap stubs c.set_table-2.ensures.table ∙ stubs-table_from _ _ 0 _ in
    old ∙ sym new

pub bring-requires-clause-old : goal.bring-requires-clause-old
bring-requires-clause-old g c =
    let old = ap length c.set_table.ensures.table ∙ length-table_from _ _ 0 _ in
    let all = ap length c.as_slice-stubs.ensures.value in
    c.self.invariant.0 ∙ sym all ∙ sym old

pub bring-requires-clause-new : goal.bring-requires-clause-new
bring-requires-clause-new g c =
    let new = ap length c.set_table-2.ensures.table ∙ length-table_from _ _ 0 _ in
    let all = ap length c.as_slice-stubs.ensures.value in
    c.self.invariant.0 ∙ sym all ∙ sym new

pub load_count-requires-clause-same : goal.load_count-requires-clause-same
load_count-requires-clause-same g c =
    let old = ap length (c.deref-in-Ok.ensures.value ∙ c.set_table.ensures.table) ∙ length-table_from _ _ 0 _ in
    let new = ap length (c.deref-in-Ok-2.ensures.value ∙ c.set_table-2.ensures.table) ∙ length-table_from _ _ 0 _ in
    old ∙ sym new

pub load_count-requires-clause-few : goal.load_count-requires-clause-few
load_count-requires-clause-few g c =
    let old = ap length (c.deref-in-Ok.ensures.value ∙ c.set_table.ensures.table) ∙ length-table_from _ _ 0 _ in
    let all = ap length c.as_slice-stubs.ensures.value in
    omega (arith, old, all, c.self.invariant.4)

pub returns-in-Err-clause-stop : goal.returns-in-Err-clause-stop
returns-in-Err-clause-stop g c =
    let m : Manager = record {
      name = c.self.inside.program.name;
      entries = c.self.inside.program.entries;
      stubs = c.self.inside.program.stubs.items;
      error_routine = c.self.inside.error_routine;
      installed = c.self.inside.installed;
      marked = c.self.inside.program.marked;
      ring = c.self.inside.ring;
      retry = c.self.inside.retry;
      tally = c.self.inside.tally;
    } in
    let s = c.args.machine.now in
    let trap = c.args.trap in
    let known = g.F.Files.folder c.args.files.now in
    let old = c.set_table.new.into.items in
    let new = c.set_table-2.new.into.items in
    let ring = c.wanted_retry.new.self in
    let it = made m trap s c.self.inside.room c.as_slice-stubs.result.now c.list.result.now old c.deref.result.now c.live.new.into c.deref-2.result.now ring c.list-2.result.now new (record {
      entries = c.self.invariant.0;
      sizes = c.self.invariant.1;
      room_is = c.self.invariant.2;
      small = c.self.invariant.3;
      stubs_is = c.as_slice-stubs.ensures.value;
      seats_old_is = c.list.ensures.seats;
      old_is = c.set_table.ensures.table;
      old_seen_is = c.deref.ensures.value;
      long = c.live.auto.into ∙ ap length c.deref_mut.ensures.value ∙ sym c.self.invariant.7;
      live_is = c.in_ok-live.ensures.live;
      live_seen_is = c.deref-2.ensures.value ∙ take_at c.live.new.into (drop (length c.live.new.into) c.self.inside.tables.live.items) c.self.inside.tables.live.len (c.live.auto.into ∙ c.deref_mut.ensures.len);
      ring_is = c.wanted_retry.ensures.ring;
      seats_new_is = c.list-2.ensures.seats;
      new_is = c.set_table-2.ensures.table;
      legal = c.wanted_retry.ensures.legal.sound;
    }) in
    let later : Manager = record m { ring = ring } in
    subst (λ (n : Manager). StopsServing n trap s c.bring.new.machine later c.in-Err.stop) c.self.view_is
    (stop-joined m trap s c.bring.new.machine old new ring later c.in-Err.stop it c.in_ok-live.ensures.sound c.in-Err.ensures.others c.in-Err.ensures.within refl c.in-Err.ensures.either)

pub returns-in-Err-clause-short : goal.returns-in-Err-clause-short
returns-in-Err-clause-short g c =
    let m : Manager = record {
      name = c.self.inside.program.name;
      entries = c.self.inside.program.entries;
      stubs = c.self.inside.program.stubs.items;
      error_routine = c.self.inside.error_routine;
      installed = c.self.inside.installed;
      marked = c.self.inside.program.marked;
      ring = c.self.inside.ring;
      retry = c.self.inside.retry;
      tally = c.self.inside.tally;
    } in
    let s = c.args.machine.now in
    let trap = c.args.trap in
    let known = g.F.Files.folder c.args.files.now in
    let old = c.set_table.new.into.items in
    let new = c.set_table-2.new.into.items in
    let ring = c.wanted_retry.new.self in
    let it = made m trap s c.self.inside.room c.as_slice-stubs.result.now c.list.result.now old c.deref.result.now c.live.new.into c.deref-2.result.now ring c.list-2.result.now new (record {
      entries = c.self.invariant.0;
      sizes = c.self.invariant.1;
      room_is = c.self.invariant.2;
      small = c.self.invariant.3;
      stubs_is = c.as_slice-stubs.ensures.value;
      seats_old_is = c.list.ensures.seats;
      old_is = c.set_table.ensures.table;
      old_seen_is = c.deref.ensures.value;
      long = c.live.auto.into ∙ ap length c.deref_mut.ensures.value ∙ sym c.self.invariant.7;
      live_is = c.in_ok-live.ensures.live;
      live_seen_is = c.deref-2.ensures.value ∙ take_at c.live.new.into (drop (length c.live.new.into) c.self.inside.tables.live.items) c.self.inside.tables.live.len (c.live.auto.into ∙ c.deref_mut.ensures.len);
      ring_is = c.wanted_retry.ensures.ring;
      seats_new_is = c.list-2.ensures.seats;
      new_is = c.set_table-2.ensures.table;
      legal = c.wanted_retry.ensures.legal.sound;
    }) in
    subst (λ (n : Manager). IfSome known (λ held. StopsShort n (bytes_of held n.name) trap s c.in-Err.stop)) c.self.view_is
    (short-joined known m trap s old new ring c.in-Err.stop it c.in-Err.ensures.stop)

pub returns-in-Ok-clause-machine : goal.returns-in-Ok-clause-machine
returns-in-Ok-clause-machine g c =
    let m : Manager = record {
      name = c.self.inside.program.name;
      entries = c.self.inside.program.entries;
      stubs = c.self.inside.program.stubs.items;
      error_routine = c.self.inside.error_routine;
      installed = c.self.inside.installed;
      marked = c.self.inside.program.marked;
      ring = c.self.inside.ring;
      retry = c.self.inside.retry;
      tally = c.self.inside.tally;
    } in
    let s = c.args.machine.now in
    let trap = c.args.trap in
    let known = g.F.Files.folder c.args.files.now in
    let old = c.set_table.new.into.items in
    let new = c.set_table-2.new.into.items in
    let ring = c.wanted_retry.new.self in
    let it = made m trap s c.self.inside.room c.as_slice-stubs.result.now c.list.result.now old c.deref.result.now c.live.new.into c.deref-2.result.now ring c.list-2.result.now new (record {
      entries = c.self.invariant.0;
      sizes = c.self.invariant.1;
      room_is = c.self.invariant.2;
      small = c.self.invariant.3;
      stubs_is = c.as_slice-stubs.ensures.value;
      seats_old_is = c.list.ensures.seats;
      old_is = c.set_table.ensures.table;
      old_seen_is = c.deref.ensures.value;
      long = c.live.auto.into ∙ ap length c.deref_mut.ensures.value ∙ sym c.self.invariant.7;
      live_is = c.in_ok-live.ensures.live;
      live_seen_is = c.deref-2.ensures.value ∙ take_at c.live.new.into (drop (length c.live.new.into) c.self.inside.tables.live.items) c.self.inside.tables.live.len (c.live.auto.into ∙ c.deref_mut.ensures.len);
      ring_is = c.wanted_retry.ensures.ring;
      seats_new_is = c.list-2.ensures.seats;
      new_is = c.set_table-2.ensures.table;
      legal = c.wanted_retry.ensures.legal.sound;
    }) in
    let u = c.resume.new.machine in
    let told = machine-joined known m trap s c.bring.new.machine u c.self.inside.room old new ring c.list-3.result.now c.list-in-Ok.result.now c.reg.result c.load_segment-load.result c.load_word-saved.result it (record {
      seats_brought_is = c.list-3.ensures.seats;
      told = c.in-Ok.ensures.told;
      seats_resumed_is = c.list-in-Ok.ensures.seats;
      cs_is = c.reg.ensures;
      saved_is = c.load_word-saved.ensures;
      load_is = c.load_segment-load.ensures;
      room_is = c.self.invariant.2;
      resumed_is = c.resume.ensures;
    }) in
    subst (λ (n : Manager). IfSome known (λ held. u ≡ served n (bytes_of held n.name) trap s)) c.self.view_is told

pub returns-in-Ok-clause-manager : goal.returns-in-Ok-clause-manager
returns-in-Ok-clause-manager g c =
    let m : Manager = record {
      name = c.self.inside.program.name;
      entries = c.self.inside.program.entries;
      stubs = c.self.inside.program.stubs.items;
      error_routine = c.self.inside.error_routine;
      installed = c.self.inside.installed;
      marked = c.self.inside.program.marked;
      ring = c.self.inside.ring;
      retry = c.self.inside.retry;
      tally = c.self.inside.tally;
    } in
    let s = c.args.machine.now in
    let trap = c.args.trap in
    let known = g.F.Files.folder c.args.files.now in
    let old = c.set_table.new.into.items in
    let new = c.set_table-2.new.into.items in
    let ring = c.wanted_retry.new.self in
    let it = made m trap s c.self.inside.room c.as_slice-stubs.result.now c.list.result.now old c.deref.result.now c.live.new.into c.deref-2.result.now ring c.list-2.result.now new (record {
      entries = c.self.invariant.0;
      sizes = c.self.invariant.1;
      room_is = c.self.invariant.2;
      small = c.self.invariant.3;
      stubs_is = c.as_slice-stubs.ensures.value;
      seats_old_is = c.list.ensures.seats;
      old_is = c.set_table.ensures.table;
      old_seen_is = c.deref.ensures.value;
      long = c.live.auto.into ∙ ap length c.deref_mut.ensures.value ∙ sym c.self.invariant.7;
      live_is = c.in_ok-live.ensures.live;
      live_seen_is = c.deref-2.ensures.value ∙ take_at c.live.new.into (drop (length c.live.new.into) c.self.inside.tables.live.items) c.self.inside.tables.live.len (c.live.auto.into ∙ c.deref_mut.ensures.len);
      ring_is = c.wanted_retry.ensures.ring;
      seats_new_is = c.list-2.ensures.seats;
      new_is = c.set_table-2.ensures.table;
      legal = c.wanted_retry.ensures.legal.sound;
    }) in
    let later : Manager = record m { ring = ring; tally = c.add.new.self } in
    let loads : c.load_count.result ≡ load_count old new = c.load_count.ensures ∙ ap₂ load_count c.deref-in-Ok.ensures.value c.deref-in-Ok-2.ensures.value in
    let later_is = ap (λ (tally : Tally). let later : Manager = record m { ring = ring; tally = tally } in later) c.add.ensures in
    subst (λ (n : Manager). IfSome known (λ held. later ≡ served_manager n (bytes_of held n.name) trap s)) c.self.view_is
    (manager-joined known m trap s old new ring c.load_count.result c.in-Ok.changed later it loads c.in-Ok.ensures.changed later_is)

pub returns-in-Ok-clause-whole : goal.returns-in-Ok-clause-whole
returns-in-Ok-clause-whole g c =
    let m : Manager = record {
      name = c.self.inside.program.name;
      entries = c.self.inside.program.entries;
      stubs = c.self.inside.program.stubs.items;
      error_routine = c.self.inside.error_routine;
      installed = c.self.inside.installed;
      marked = c.self.inside.program.marked;
      ring = c.self.inside.ring;
      retry = c.self.inside.retry;
      tally = c.self.inside.tally;
    } in
    let s = c.args.machine.now in
    let trap = c.args.trap in
    let known = g.F.Files.folder c.args.files.now in
    let old = c.set_table.new.into.items in
    let new = c.set_table-2.new.into.items in
    let ring = c.wanted_retry.new.self in
    let it = made m trap s c.self.inside.room c.as_slice-stubs.result.now c.list.result.now old c.deref.result.now c.live.new.into c.deref-2.result.now ring c.list-2.result.now new (record {
      entries = c.self.invariant.0;
      sizes = c.self.invariant.1;
      room_is = c.self.invariant.2;
      small = c.self.invariant.3;
      stubs_is = c.as_slice-stubs.ensures.value;
      seats_old_is = c.list.ensures.seats;
      old_is = c.set_table.ensures.table;
      old_seen_is = c.deref.ensures.value;
      long = c.live.auto.into ∙ ap length c.deref_mut.ensures.value ∙ sym c.self.invariant.7;
      live_is = c.in_ok-live.ensures.live;
      live_seen_is = c.deref-2.ensures.value ∙ take_at c.live.new.into (drop (length c.live.new.into) c.self.inside.tables.live.items) c.self.inside.tables.live.len (c.live.auto.into ∙ c.deref_mut.ensures.len);
      ring_is = c.wanted_retry.ensures.ring;
      seats_new_is = c.list-2.ensures.seats;
      new_is = c.set_table-2.ensures.table;
      legal = c.wanted_retry.ensures.legal.sound;
    }) in
    subst (λ (n : Manager). IfSome known (λ held. FileHas n (bytes_of held n.name) trap s)) c.self.view_is
    (whole-joined known m trap s old new ring it c.in-Ok.ensures.whole)

pub returns-in-Ok-clause-serves : goal.returns-in-Ok-clause-serves
returns-in-Ok-clause-serves g c =
    let m : Manager = record {
      name = c.self.inside.program.name;
      entries = c.self.inside.program.entries;
      stubs = c.self.inside.program.stubs.items;
      error_routine = c.self.inside.error_routine;
      installed = c.self.inside.installed;
      marked = c.self.inside.program.marked;
      ring = c.self.inside.ring;
      retry = c.self.inside.retry;
      tally = c.self.inside.tally;
    } in
    let s = c.args.machine.now in
    let trap = c.args.trap in
    let known = g.F.Files.folder c.args.files.now in
    let old = c.set_table.new.into.items in
    let new = c.set_table-2.new.into.items in
    let ring = c.wanted_retry.new.self in
    let it = made m trap s c.self.inside.room c.as_slice-stubs.result.now c.list.result.now old c.deref.result.now c.live.new.into c.deref-2.result.now ring c.list-2.result.now new (record {
      entries = c.self.invariant.0;
      sizes = c.self.invariant.1;
      room_is = c.self.invariant.2;
      small = c.self.invariant.3;
      stubs_is = c.as_slice-stubs.ensures.value;
      seats_old_is = c.list.ensures.seats;
      old_is = c.set_table.ensures.table;
      old_seen_is = c.deref.ensures.value;
      long = c.live.auto.into ∙ ap length c.deref_mut.ensures.value ∙ sym c.self.invariant.7;
      live_is = c.in_ok-live.ensures.live;
      live_seen_is = c.deref-2.ensures.value ∙ take_at c.live.new.into (drop (length c.live.new.into) c.self.inside.tables.live.items) c.self.inside.tables.live.len (c.live.auto.into ∙ c.deref_mut.ensures.len);
      ring_is = c.wanted_retry.ensures.ring;
      seats_new_is = c.list-2.ensures.seats;
      new_is = c.set_table-2.ensures.table;
      legal = c.wanted_retry.ensures.legal.sound;
    }) in
    let u = c.resume.new.machine in
    let told = machine-joined known m trap s c.bring.new.machine u c.self.inside.room old new ring c.list-3.result.now c.list-in-Ok.result.now c.reg.result c.load_segment-load.result c.load_word-saved.result it (record {
      seats_brought_is = c.list-3.ensures.seats;
      told = c.in-Ok.ensures.told;
      seats_resumed_is = c.list-in-Ok.ensures.seats;
      cs_is = c.reg.ensures;
      saved_is = c.load_word-saved.ensures;
      load_is = c.load_segment-load.ensures;
      room_is = c.self.invariant.2;
      resumed_is = c.resume.ensures;
    }) in
    let within = within-joined known m trap s old new ring it c.in-Ok.ensures.loaded in
    subst (λ (n : Manager). IfSome known (λ held. IsOrderlyFor n s trap.call → Serves n (bytes_of held n.name) trap s u)) c.self.view_is
    (serves-told known m.name m trap s u c.in_ok-live.ensures.sound told within)

pub returns-in-Ok-clause-code : goal.returns-in-Ok-clause-code
returns-in-Ok-clause-code g c =
    let m : Manager = record {
      name = c.self.inside.program.name;
      entries = c.self.inside.program.entries;
      stubs = c.self.inside.program.stubs.items;
      error_routine = c.self.inside.error_routine;
      installed = c.self.inside.installed;
      marked = c.self.inside.program.marked;
      ring = c.self.inside.ring;
      retry = c.self.inside.retry;
      tally = c.self.inside.tally;
    } in
    let s = c.args.machine.now in
    let trap = c.args.trap in
    let known = g.F.Files.folder c.args.files.now in
    let old = c.set_table.new.into.items in
    let new = c.set_table-2.new.into.items in
    let ring = c.wanted_retry.new.self in
    let it = made m trap s c.self.inside.room c.as_slice-stubs.result.now c.list.result.now old c.deref.result.now c.live.new.into c.deref-2.result.now ring c.list-2.result.now new (record {
      entries = c.self.invariant.0;
      sizes = c.self.invariant.1;
      room_is = c.self.invariant.2;
      small = c.self.invariant.3;
      stubs_is = c.as_slice-stubs.ensures.value;
      seats_old_is = c.list.ensures.seats;
      old_is = c.set_table.ensures.table;
      old_seen_is = c.deref.ensures.value;
      long = c.live.auto.into ∙ ap length c.deref_mut.ensures.value ∙ sym c.self.invariant.7;
      live_is = c.in_ok-live.ensures.live;
      live_seen_is = c.deref-2.ensures.value ∙ take_at c.live.new.into (drop (length c.live.new.into) c.self.inside.tables.live.items) c.self.inside.tables.live.len (c.live.auto.into ∙ c.deref_mut.ensures.len);
      ring_is = c.wanted_retry.ensures.ring;
      seats_new_is = c.list-2.ensures.seats;
      new_is = c.set_table-2.ensures.table;
      legal = c.wanted_retry.ensures.legal.sound;
    }) in
    let u = c.resume.new.machine in
    let told = machine-joined known m trap s c.bring.new.machine u c.self.inside.room old new ring c.list-3.result.now c.list-in-Ok.result.now c.reg.result c.load_segment-load.result c.load_word-saved.result it (record {
      seats_brought_is = c.list-3.ensures.seats;
      told = c.in-Ok.ensures.told;
      seats_resumed_is = c.list-in-Ok.ensures.seats;
      cs_is = c.reg.ensures;
      saved_is = c.load_word-saved.ensures;
      load_is = c.load_segment-load.ensures;
      room_is = c.self.invariant.2;
      resumed_is = c.resume.ensures;
    }) in
    let within = within-joined known m trap s old new ring it c.in-Ok.ensures.loaded in
    subst (λ (n : Manager). IfSome known (λ held. IsOrderlyFor n s trap.call → IsStanding n (bytes_of held n.name) s.memory → CodeStands (bytes_of held n.name) n.entries (table_after n trap s) u.memory)) c.self.view_is
    (code-told known m.name m trap s u it.small c.self.invariant.0 it.legal c.in_ok-live.ensures.sound told within)

pub returns-in-Ok-clause-stubs : goal.returns-in-Ok-clause-stubs
returns-in-Ok-clause-stubs g c =
    let m : Manager = record {
      name = c.self.inside.program.name;
      entries = c.self.inside.program.entries;
      stubs = c.self.inside.program.stubs.items;
      error_routine = c.self.inside.error_routine;
      installed = c.self.inside.installed;
      marked = c.self.inside.program.marked;
      ring = c.self.inside.ring;
      retry = c.self.inside.retry;
      tally = c.self.inside.tally;
    } in
    let s = c.args.machine.now in
    let trap = c.args.trap in
    let known = g.F.Files.folder c.args.files.now in
    let old = c.set_table.new.into.items in
    let new = c.set_table-2.new.into.items in
    let ring = c.wanted_retry.new.self in
    let it = made m trap s c.self.inside.room c.as_slice-stubs.result.now c.list.result.now old c.deref.result.now c.live.new.into c.deref-2.result.now ring c.list-2.result.now new (record {
      entries = c.self.invariant.0;
      sizes = c.self.invariant.1;
      room_is = c.self.invariant.2;
      small = c.self.invariant.3;
      stubs_is = c.as_slice-stubs.ensures.value;
      seats_old_is = c.list.ensures.seats;
      old_is = c.set_table.ensures.table;
      old_seen_is = c.deref.ensures.value;
      long = c.live.auto.into ∙ ap length c.deref_mut.ensures.value ∙ sym c.self.invariant.7;
      live_is = c.in_ok-live.ensures.live;
      live_seen_is = c.deref-2.ensures.value ∙ take_at c.live.new.into (drop (length c.live.new.into) c.self.inside.tables.live.items) c.self.inside.tables.live.len (c.live.auto.into ∙ c.deref_mut.ensures.len);
      ring_is = c.wanted_retry.ensures.ring;
      seats_new_is = c.list-2.ensures.seats;
      new_is = c.set_table-2.ensures.table;
      legal = c.wanted_retry.ensures.legal.sound;
    }) in
    let u = c.resume.new.machine in
    let told = machine-joined known m trap s c.bring.new.machine u c.self.inside.room old new ring c.list-3.result.now c.list-in-Ok.result.now c.reg.result c.load_segment-load.result c.load_word-saved.result it (record {
      seats_brought_is = c.list-3.ensures.seats;
      told = c.in-Ok.ensures.told;
      seats_resumed_is = c.list-in-Ok.ensures.seats;
      cs_is = c.reg.ensures;
      saved_is = c.load_word-saved.ensures;
      load_is = c.load_segment-load.ensures;
      room_is = c.self.invariant.2;
      resumed_is = c.resume.ensures;
    }) in
    let within = within-joined known m trap s old new ring it c.in-Ok.ensures.loaded in
    subst (λ (n : Manager). IfSome known (λ held. IsOrderlyFor n s trap.call → StubsRead n s.memory u.memory (seats_after n trap s))) c.self.view_is
    (stubs-told known m.name m trap s u c.in_ok-live.ensures.sound told within)
