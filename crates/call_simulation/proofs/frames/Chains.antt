-- States are framed where the frames are chained.
use Rattle.std.proofs.Common.{◌≡◌, ◌≢◌, ℕ, ◌+◌, ◌-◌, ◌*◌, ◌/◌, ◌%◌, ◌<◌, ◌≤◌, Bool, true, false, List, [], ◌∷◌, Some, arith, sym, ap, subst, ◌∙◌}
use Rattle.std.specs.Prelude.{IsTrue}
use Rattle.std.specs.List.{AllByRecursion}
use Rattle.cpu_8086.specs.Memory.{address, next_offset, word_of}
use Rattle.frame_links.specs.Links.{Link, link_word, room_of}
use Rattle.resident_machine.specs.Cells.{Known, Cells, is_free, known_word, word_of_cells, below}
use Rattle.resident_machine.specs.Framed.{AreLinks, MissesWord, IsSpare, IsFramed, live_places, places_of}
use Rattle.resident_machine.specs.State.{ResidentState}
use Rattle.statement_simulation.specs.flow.Sites.{World, Site, Live, Fits}
use Rattle.call_simulation.specs.frames.Chain.{IsFixedLink, AreFixedLinks, IsChained}

-- a link has room for its word and a near return address
pub some_room : (far : Bool) → 4 ≤ room_of far
some_room true = omega arith
some_room false = omega arith

module _ (w : World) (caller : Site) (live : Live) (fits : Fits w caller live) where
  abbrev ss : ℕ
  ss = w.choice.stack_segment

  -- a fixed link is known
  link_known : (c : Cells) (link : Link) (word : ℕ) (links : List Link) → ((place byte : ℕ) → live.fixed place ≡ Some byte → c place ≡ Known byte) → IsFixedLink live.fixed (16 * ss) link word links → known_word c ss link.at ≡ Some word
  link_known c link word links known h =
      let top = h.top in
      let inside = h.inside in
      let four = some_room link.far in
      let e0 : 16 * ss + link.at ≡ address ss link.at = omega arith in
      let e1 : 16 * ss + link.at + 1 ≡ address ss (next_offset link.at) = omega arith in
      let low = subst (λ place. c place ≡ Known (word % 256)) e0 (known (16 * ss + link.at) (word % 256) h.low) in
      let high = subst (λ place. c place ≡ Known (word / 256)) e1 (known (16 * ss + link.at + 1) (word / 256) h.high) in
      let whole : word_of (word % 256) (word / 256) ≡ word = omega arith in
      ap (λ x. word_of_cells x (c (address ss (next_offset link.at)))) low ∙ ap (λ x. word_of_cells (Known (word % 256)) x) high ∙ ap (λ n. Some n) whole

  links_known : (c : Cells) (at : ℕ) (links : List Link) → ((place byte : ℕ) → live.fixed place ≡ Some byte → c place ≡ Known byte) → AreFixedLinks live.fixed (16 * ss) at links → AreLinks true c ss at links
  links_known c at [] known h = h
  links_known c at (link ∷ links) known h =
      let one = h.2 in
      (h.0, h.1, record { positive = one.positive; known = link_known c link h.1 links known one; far = one.far; room = one.room }, links_known c (link_word true h.1).next links known h.3)

  -- none of the 64 bytes below SP is one of a link
  links_missed : (place at : ℕ) (links : List Link) → 16 * ss ≤ place → place < 16 * ss + live.frame.sp → AreFixedLinks live.fixed (16 * ss) at links → AllByRecursion (λ (link : Link). MissesWord place ss link.at) links
  links_missed place at [] low high h = tt
  links_missed place at (link ∷ links) low high h =
      let one = h.2 in
      let top = one.top in
      let inside = one.inside in
      let four = some_room link.far in
      let a0 = fits.above (16 * ss + link.at) (h.1 % 256) one.low (omega arith) in
      let a1 = fits.above (16 * ss + link.at + 1) (h.1 / 256) one.high (omega arith) in
      (record { low = λ e. absurd (omega arith); high = λ e. absurd (omega arith) }, links_missed place (link_word true h.1).next links low high h.3)

  -- the state is framed
  pub framed_there : (pending : Bool) (x : ResidentState) (chained : IsChained w live) → x.registers.ss ≡ ss → x.registers.bp ≡ live.frame.bp → x.registers.sp ≤ live.frame.sp → 64 ≤ x.registers.sp → x.registers.sp < 65536 → 16 * ss + x.registers.sp ≤ 1048576 → ((place byte : ℕ) → live.fixed place ≡ Some byte → x.cells place ≡ Known byte) → places_of x.records ≡ live_places pending x.registers.sp chained.links → (IsTrue pending → x.registers.sp + 4 ≤ 65536) → ((offset : ℕ) → offset < x.registers.sp → IsTrue (is_free (x.cells (16 * ss + offset))) × (16 * ss + offset ≢ w.machine.installed)) → IsFramed w.machine pending x
  framed_there pending x chained ss_is bp_is lower room top inside known places pending_room spare = record {
    links = chained.links;
    chain = subst (λ marked. AreLinks marked x.cells x.registers.ss x.registers.bp chained.links) (sym chained.marked)
        (subst (λ z. AreLinks true x.cells z x.registers.bp chained.links) (sym ss_is) (subst (λ b. AreLinks true x.cells ss b chained.links) (sym bp_is) (links_known x.cells live.frame.bp chained.links known chained.chain)));
    places = places;
    pending_room = pending_room;
    spare = λ k less. spare_at k less;
  }
    where
      spare_at : (k : ℕ) → k < 64 → IsSpare w.machine x chained.links (below x.registers.ss x.registers.sp k)
      spare_at k less =
          let there : below x.registers.ss x.registers.sp k ≡ 16 * ss + (x.registers.sp - 1 - k) = (let e = ss_is in let r = room in let t = top in let i = inside in omega (arith, less)) in
          let may = spare (x.registers.sp - 1 - k) (let r = room in omega (arith, less)) in
          subst (λ place. IsSpare w.machine x chained.links place) (sym there) (record {
            free = may.0;
            flag = may.1;
            link = subst (λ z. AllByRecursion (λ (link : Link). MissesWord (16 * ss + (x.registers.sp - 1 - k)) z link.at) chained.links) (sym ss_is)
                (links_missed (16 * ss + (x.registers.sp - 1 - k)) live.frame.bp chained.links (omega arith) (let l = lower in let r = room in omega (arith, less)) chained.chain);
          })
