-- A whole visit: what it is made of, and that it only adds to the journal.
use Rattle.std.proofs.Common.{◌≡◌, ◌∙◌, ap, subst, sym, refl, inl, inr, ℕ, zero, suc, List, drop, length}
use Rattle.std.specs.Prelude.{Option, Some, None}
use Rattle.std.specs.List.{flat_map}
use Rattle.qs_disk.specs.Disk.{DiskState}
use Rattle.qs_packet.specs.declared.packet.Packet.{Packet}
use Rattle.qs_cell_peers.specs.Links.{HasPut, HasPutSome, LinksValue, carried_from, puts_of}
use Rattle.qs_cell.specs.Hearing.{BreaksBelow, BreaksFrom, BreaksHearing, Hears, HearsBelow, HearsIf, HearsIn, HearsTimes, Post}
use Rattle.qs_cell.specs.Joined.{HaveSameRings}
use Rattle.qs_cell.specs.Restart.{in_round_as}
use Rattle.qs_cell.specs.Starts.{CellValue, post_of, trace_of}
use Rattle.qs_cell.specs.Visits.{Grows, TurnsAll, TurnsSome, entries_in, sources_of}
use Rattle.qs_cell.specs.WholeVisits.{Breaks, BreaksIn, HasBegun, Visits, put_since, steps_in}
use Rattle.qs_cell.specs.declared.cell.EventSource.{EventSource}
use Rattle.qs_cell.specs.declared.state.CellState.{CellState}
use Rattle.qs_cell.specs.declared.state.CellState.TheVariants as states
use Rattle.qs_cell.proofs.Growing.{all_grow, entries_same, grows_on, seen_same, some_grow}
use Rattle.qs_cell.proofs.Hearing.{taken_grows}
use Rattle.qs_cell.proofs.Turning.{sources_now}

module _ {D : Type 0} (told : Type 0) (state : D → DiskState) (own size : D → ℕ) where
  -- ---- the packets

  if_grows : (taken : Option Packet) (old new : Post D) → HearsIf told state own size taken old new → Grows (entries_in old.seat.node) (entries_in new.seat.node)
  if_grows None old new is = entries_same old.seat.node new.seat.node (ap (λ (p : Post D). entries_in p.seat.node) is)
  if_grows (Some packet) old new is = taken_grows told state own size packet old.seat.node new.seat.node is.1.0 is.1.1.0

  in_grows : (m : ℕ) (ready : CellState D) (old new : Post D) → HearsIn told state own size m ready old new → Grows (entries_in ready) (entries_in new.seat.node)
  in_grows m (states.Down stopped) old new is = entries_same (states.Down stopped) new.seat.node (ap (λ (p : Post D). entries_in p.seat.node) is)
  in_grows m (states.Up running) old new is = if_grows is.0 (record { seat = record old.seat { node = states.Up running }; links = is.1.0 }) new is.1.1.1

  pub turn_grows : (m : ℕ) (old new : Post D) → Hears told state own size m old new → Grows (entries_in old.seat.node) (entries_in new.seat.node)
  turn_grows m old new hears = grows_on (entries_in old.seat.node) (entries_in hears.ready) (entries_in new.seat.node)
      (entries_same old.seat.node hears.ready (seen_same (λ s. s) old.seat.node hears.ready (λ s. refl) hears.same)) (in_grows m hears.ready old new hears.turn)

  times_grow : (m count : ℕ) (old new : Post D) → HearsTimes told state own size m count old new → Grows (entries_in old.seat.node) (entries_in new.seat.node)
  times_grow m zero old new is = entries_same old.seat.node new.seat.node (ap (λ (p : Post D). entries_in p.seat.node) is)
  times_grow m (suc count) old new is = grows_on (entries_in old.seat.node) (entries_in is.0.seat.node) (entries_in new.seat.node) (times_grow m count old is.0 is.1.0) (turn_grows m is.0 new is.1.1)

  below_grows : (m : ℕ) (old new : Post D) → HearsBelow told state own size m old new → Grows (entries_in old.seat.node) (entries_in new.seat.node)
  below_grows zero old new is = entries_same old.seat.node new.seat.node (ap (λ (p : Post D). entries_in p.seat.node) is)
  below_grows (suc m) old new is = grows_on (entries_in old.seat.node) (entries_in is.0.seat.node) (entries_in new.seat.node) (below_grows m old is.0 is.1.0)
      (times_grow m (carried_from is.0.links m) is.0 new is.1.1)

  pub broken_grows : (m : ℕ) (old new : Post D) → BreaksHearing told state own size m old new → Grows (entries_in old.seat.node) (entries_in new.seat.node)
  broken_grows m old new (inl same) = entries_same old.seat.node new.seat.node (seen_same (λ s. s) old.seat.node new.seat.node (λ s. refl) same)
  broken_grows m old new (inr it) = grows_on (entries_in old.seat.node) (entries_in it.0) (entries_in new.seat.node)
      (entries_same old.seat.node it.0 (seen_same (λ s. s) old.seat.node it.0 (λ s. refl) it.1.0)) (taken_grows told state own size it.1.1.0 it.0 new.seat.node it.1.1.1.1.0 it.1.1.1.1.1)

  from_breaks : (m : ℕ) (old new : Post D) → BreaksFrom told state own size m old new → Grows (entries_in old.seat.node) (entries_in new.seat.node)
  from_breaks m old new it = grows_on (entries_in old.seat.node) (entries_in it.mid.seat.node) (entries_in new.seat.node) (times_grow m it.count old it.mid it.heard) (broken_grows m it.mid new it.breaks)

  below_breaks : (nodes : ℕ) (old new : Post D) → BreaksBelow told state own size nodes old new → Grows (entries_in old.seat.node) (entries_in new.seat.node)
  below_breaks nodes old new it = grows_on (entries_in old.seat.node) (entries_in it.mid.seat.node) (entries_in new.seat.node) (below_grows it.at old it.mid it.heard) (from_breaks it.at it.mid new it.breaks)

  -- ---- a visit

  begun_grows : (old begun new : Post D) → HasBegun old begun → Grows (entries_in begun.seat.node) (entries_in new.seat.node) → Grows (entries_in old.seat.node) (entries_in new.seat.node)
  begun_grows old begun new begins more = grows_on (entries_in old.seat.node) (entries_in begun.seat.node) (entries_in new.seat.node)
      (entries_same old.seat.node begun.seat.node (seen_same in_round_as old.seat.node begun.seat.node (λ s. refl) begins.round)) more

  pub visit_grows : (old new : Post D) → Visits told state own size old new → Grows (entries_in old.seat.node) (entries_in new.seat.node)
  visit_grows old new visits = begun_grows old visits.begun new visits.begins
      (grows_on (entries_in visits.begun.seat.node) (entries_in visits.heard.seat.node) (entries_in new.seat.node) (below_grows old.links.size visits.begun visits.heard visits.hears)
      (all_grow told state own size (sources_of old.seat.ends) visits.heard.seat new.seat visits.turns))

  in_breaks : (old begun new : Post D) → BreaksIn told state own size old begun new → Grows (entries_in begun.seat.node) (entries_in new.seat.node)
  in_breaks old begun new it = grows_on (entries_in begun.seat.node) (entries_in it.heard.seat.node) (entries_in new.seat.node) (below_grows old.links.size begun it.heard it.hears) (elim it.turns [
    | inl some ↦ some_grow told state own size (sources_of old.seat.ends) it.heard.seat new.seat some
    | inr all ↦ all_grow told state own size (sources_of old.seat.ends) it.heard.seat new.seat all.0
  ])

  pub break_grows : (old new : Post D) → Breaks told state own size old new → Grows (entries_in old.seat.node) (entries_in new.seat.node)
  break_grows old new breaks = begun_grows old breaks.begun new breaks.begins (elim breaks.within [
    | inl heard ↦ below_breaks old.links.size breaks.begun new heard
    | inr later ↦ in_breaks old breaks.begun new later
  ])

  -- ---- what it is made of

  module _ (old begun : CellValue D) (begins : HasBegun (post_of old) (post_of begun)) where
    below : (heard : Post D) → HearsBelow told state own size begun.links.size (post_of begun) heard → HearsBelow told state own size old.links.size (post_of begun) heard
    below heard = subst (λ (v : LinksValue). HearsBelow told state own size v.size (post_of begun) heard) begins.links

    pub breaks_heard : (new : CellValue D) → BreaksBelow told state own size begun.links.size (post_of begun) (post_of new) → Breaks told state own size (post_of old) (post_of new)
    breaks_heard new it = record {
      begun = post_of begun;
      begins = begins;
      within = inl (subst (λ (v : LinksValue). BreaksBelow told state own size v.size (post_of begun) (post_of new)) begins.links it);
    }

    module _ (heard : CellValue D) (hears : HearsBelow told state own size begun.links.size (post_of begun) (post_of heard)) (rings : HaveSameRings begun.seat.ends heard.seat.ends) where
      sources : sources_of heard.seat.ends ≡ sources_of old.seat.ends
      sources = sources_now begun.seat.ends heard.seat.ends heard.seat.ends refl rings ∙ ap sources_of begins.ends

      pub breaks_turned : (new : CellValue D) → TurnsSome told state own size (sources_of heard.seat.ends) heard.seat new.seat → Breaks told state own size (post_of old) (post_of new)
      breaks_turned new some = record {
        begun = post_of begun;
        begins = begins;
        within = inr (record {
          heard = post_of heard;
          hears = below (post_of heard) hears;
          turns = inl (subst (λ (l : List EventSource). TurnsSome told state own size l heard.seat new.seat) sources some);
        });
      }

      module _ (turned : CellValue D) (turns : TurnsAll told state own size (sources_of heard.seat.ends) heard.seat turned.seat) (links : turned.links ≡ heard.links) (before : ℕ) (at : before ≡ length (trace_of old))
          (new : CellValue D) (seat : new.seat ≡ turned.seat) where
        all : TurnsAll told state own size (sources_of old.seat.ends) heard.seat new.seat
        all = subst (λ s. TurnsAll told state own size (sources_of old.seat.ends) heard.seat s) (sym seat)
            (subst (λ (l : List EventSource). TurnsAll told state own size l heard.seat turned.seat) sources turns)

        same_put : flat_map puts_of (drop before (trace_of turned)) ≡ put_since (steps_in old.seat.node) (steps_in new.seat.node)
        same_put = ap (λ (n : ℕ). flat_map puts_of (drop n (trace_of turned))) at
            ∙ ap (λ s. flat_map puts_of (drop (length (trace_of old)) (steps_in s.node))) (sym seat)

        pub breaks_put : HasPutSome (flat_map puts_of (drop before (trace_of turned))) turned.links new.links → Breaks told state own size (post_of old) (post_of new)
        breaks_put some = record {
          begun = post_of begun;
          begins = begins;
          within = inr (record {
            heard = post_of heard;
            hears = below (post_of heard) hears;
            turns = inr (
              all,
              subst (λ (v : LinksValue). HasPutSome (put_since (steps_in old.seat.node) (steps_in new.seat.node)) v new.links) links
                  (subst (λ (l : List Packet). HasPutSome l turned.links new.links) same_put some),
            );
          });
        }

        pub visits_all : HasPut (flat_map puts_of (drop before (trace_of turned))) turned.links new.links → Visits told state own size (post_of old) (post_of new)
        visits_all put = record {
          begun = post_of begun;
          begins = begins;
          heard = post_of heard;
          hears = below (post_of heard) hears;
          turns = all;
          put = subst (λ (v : LinksValue). HasPut (put_since (steps_in old.seat.node) (steps_in new.seat.node)) v new.links) links
              (subst (λ (l : List Packet). HasPut l turned.links new.links) same_put put);
        }
