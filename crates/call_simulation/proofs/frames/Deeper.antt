-- The chain of frames grows by an activation.
use Rattle.std.proofs.Common.{◌≡◌, ℕ, ◌+◌, ◌*◌, ◌%◌, ◌<◌, ◌≤◌, ◌==◌, Bool, true, false, List, [], ◌∷◌, ◌++◌, arith, refl, sym, ap, subst, ◌∙◌}
use Rattle.frame_links.specs.Links.{Link, link_word, place_if, pair_place, pair_places, room_of, room_before}
use Rattle.flat_code.specs.Program.{Name, Routine, UnitCode}
use Rattle.flat_code.specs.Values.{Frame}
use Rattle.flat_code.specs.Calls.{activation_bytes, link_bytes}
use Rattle.resident_machine.specs.Framed.{places_of}
use Rattle.statement_simulation.specs.flow.Sites.{World, Site, Live, Fits}
use Rattle.call_simulation.specs.frames.Callee.{Back, saved_at, kept_bp, fixed_return, with_return, callee}
use Rattle.call_simulation.specs.frames.Chain.{IsFixedLink, AreFixedLinks, IsChained}
use Rattle.call_simulation.proofs.frames.Entry.{four_links}
use Rattle.call_simulation.proofs.frames.Fixed.{with_fixed_other, with_fixed_low, with_fixed_high}

-- the link takes what the return address and the caller's BP take
link_room : (far : Bool) → link_bytes far ≡ room_of far
link_room true = refl
link_room false = refl

even_link : (far : Bool) → link_bytes far % 2 ≡ 0
even_link true = refl
even_link false = refl

-- what a frame keeps leads to the caller's link, and says whether the routine is far
kept_next : (far : Bool) (bp : ℕ) → bp % 2 ≡ 0 → (link_word true (kept_bp far bp)).next ≡ bp
kept_next true bp even = omega arith
kept_next false bp even = omega arith

kept_far : (far : Bool) (bp : ℕ) → bp % 2 ≡ 0 → far ≡ (link_word true (kept_bp far bp)).far
kept_far true bp even = let odd : (bp + 1) % 2 ≡ 1 = omega arith in sym (ap (λ (n : ℕ). n == 1) odd)
kept_far false bp even = sym (ap (λ (n : ℕ). n == 1) even)

kept_small : (far : Bool) (bp : ℕ) → bp < 65535 → kept_bp far bp < 65536
kept_small true bp small = omega arith
kept_small false bp small = omega arith

module _ (w : World) (caller : Site) (live : Live) (fits : Fits w caller live) (name : Name) (unit : UnitCode) (r : Routine) (back : Back) (deep : 64 + activation_bytes r ≤ live.frame.sp) (top : live.frame.sp < 65536) (inside : 16 * w.choice.stack_segment + live.frame.sp ≤ 1048576) (arguments : r.arguments % 2 ≡ 0) (locals : r.locals % 2 ≡ 0) where
  abbrev f : Frame
  f = live.frame

  abbrev base : ℕ
  base = 16 * w.choice.stack_segment

  abbrev inner : Live
  inner = callee w name unit r live back

  abbrev return_at : ℕ
  return_at = base + saved_at r f + 2

  -- what stands at or above the caller's SP is fixed as before
  still_fixed : (place : ℕ) → base + f.sp ≤ place → inner.fixed place ≡ live.fixed place
  still_fixed place above =
      let y = deep in
      let four = four_links r.far in
      with_fixed_other (fixed_return r.far live.fixed return_at back.offset) (base + saved_at r f) (kept_bp r.far f.bp) place (λ e. absurd (omega arith)) (λ e. absurd (omega arith))
      ∙ by r.far
    where
      by : (far : Bool) → fixed_return far live.fixed return_at back.offset place ≡ live.fixed place
      by true = refl
      by false =
          let y = deep in
          let four = four_links r.far in
          with_fixed_other live.fixed return_at back.offset place (λ e. absurd (omega arith)) (λ e. absurd (omega arith))

  link_above : (link : Link) (word : ℕ) (links : List Link) → IsFixedLink live.fixed base link word links → f.sp ≤ link.at
  link_above link word links h = let z = fits.above (base + link.at) (word % 256) h.low (omega arith) in omega (arith, z)

  link_still : (link : Link) (word : ℕ) (links : List Link) → IsFixedLink live.fixed base link word links → IsFixedLink inner.fixed base link word links
  link_still link word links h =
      let above = link_above link word links h in
      record {
        positive = h.positive;
        top = h.top;
        inside = h.inside;
        small = h.small;
        low = still_fixed (base + link.at) (omega (arith, above)) ∙ h.low;
        high = still_fixed (base + link.at + 1) (omega (arith, above)) ∙ h.high;
        far = h.far;
        room = h.room;
      }

  links_still : (at : ℕ) (links : List Link) → AreFixedLinks live.fixed base at links → AreFixedLinks inner.fixed base at links
  links_still at [] h = h
  links_still at (link ∷ links) h = (h.0, h.1, link_still link h.1 links h.2, links_still (link_word true h.1).next links h.3)

  room_there : (links : List Link) → AreFixedLinks live.fixed base f.bp links → saved_at r f + room_of r.far ≤ room_before links
  room_there [] h =
      let y = deep in
      let t = top in
      let room = link_room r.far in
      omega arith
  room_there (link ∷ links) h =
      let y = deep in
      let room = link_room r.far in
      let above = link_above link h.1 links h.2 in
      omega arith

  small_bp : f.bp < 65535
  small_bp =
      let link = fits.suits.link in
      let small = fits.suits.link_small in
      let four = four_links caller.context.far in
      omega arith

  -- a far call's record stands above the link
  places_deeper : (links : List Link) → places_of live.records ≡ pair_places links → places_of inner.records ≡ place_if r.far (pair_place (saved_at r f)) ++ pair_places links
  places_deeper links places = by r.far
    where
      by : (far : Bool) → places_of (with_return far (saved_at r f + 2) back live.records) ≡ place_if far (pair_place (saved_at r f)) ++ pair_places links
      by true =
          let y = deep in
          let t = top in
          let four = four_links r.far in
          let sum : saved_at r f + 2 ≡ (saved_at r f + 2) % 65536 = omega arith in
          ap (λ ps. (saved_at r f + 2) ∷ ps) places ∙ ap (λ n. n ∷ pair_places links) sum
      by false = places

  pub chained_deeper : IsChained w live → IsChained w inner
  chained_deeper c =
      let y = deep in
      let t = top in
      let i = inside in
      let room = link_room r.far in
      let even = even_link r.far in
      let even_sp = c.even_sp in
      let some = arguments in
      let more = locals in
      let four = four_links r.far in
      record {
        marked = c.marked;
        links = record { at = saved_at r f; far = r.far } ∷ c.links;
        chain = (
          refl,
          kept_bp r.far f.bp,
          record {
            positive = omega arith;
            top = omega arith;
            inside = omega arith;
            small = kept_small r.far f.bp small_bp;
            low = with_fixed_low (fixed_return r.far live.fixed return_at back.offset) (base + saved_at r f) (kept_bp r.far f.bp);
            high = with_fixed_high (fixed_return r.far live.fixed return_at back.offset) (base + saved_at r f) (kept_bp r.far f.bp);
            far = kept_far r.far f.bp c.even_bp;
            room = room_there c.links c.chain;
          },
          subst (λ at. AreFixedLinks inner.fixed base at c.links) (sym (kept_next r.far f.bp c.even_bp)) (links_still f.bp c.links c.chain),
        );
        places = places_deeper c.links c.places;
        even_bp = omega arith;
        even_sp = omega arith;
      }
