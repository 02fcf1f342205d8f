-- Stamps of a cell among others, and what it tells then: each step has a stamp above that of the step before, and above that of the packet that comes with
-- it; where one of these is the last, the cell's own stays.
use Rattle.std.proofs.Common.{◌≡◌, ◌∙◌, ap, refl, subst, sym, ℕ, ◌+◌, ◌≤◌, ◌<◌, ◌^◌, Bool, true, false, List, [], ◌∷◌, ◌++◌, Option, None, map, max, nat_le, arith, if◌then◌else◌}
use Rattle.std.proofs.lemmas.Bool.Decides.{nat_tests}
use Rattle.qs_base.specs.declared.identifiers.NodeNo.{NodeNo}
use Rattle.qs_book_journal.specs.declared.entry.Act.{Act}
use Rattle.qs_book_journal.specs.declared.entry.CrashCause.{CrashCause}
use Rattle.qs_book_journal.specs.declared.entry.Entry.{Entry}
use Rattle.qs_cell.specs.Cell.{begun_past, planned_after, why_not}
use Rattle.qs_cell_chronicle.specs.Carried.{Seen}
use Rattle.qs_cell_chronicle.specs.Chronicle as chronicle
use Rattle.qs_cell_chronicle.specs.Chronicle.{Told, in_round, is_last, is_last_past, last_stamp, noted, numbered, stamped, stamped_past}
use Rattle.qs_node_step.specs.declared.event.Effects.{Effects}
use Rattle.qs_node_step.specs.declared.trace.Did.{Did}
use Rattle.qs_node_step.specs.declared.trace.Step as trace
use Rattle.qs_packet.specs.declared.packet.Packet.{Packet}
use Rattle.qs_world.specs.Moves.{node_no}
use Rattle.qs_world.specs.Posting.{entries_of}
use Rattle.qs_world.specs.World.{Opening}
use Rattle.qs_world_merge.specs.Reaching.{HasReached}
use Rattle.qs_world_packets.specs.PacketWorld.{PacketWorld}
use Rattle.qs_world_traces.specs.Links.{observed_by}
use Rattle.qs_world_seats.specs.Shown.{observed_of}

-- ---- the next stamp

pub record IsNext (told new : Told) : Type 0 where
  pub node : new.node ≡ told.node
  pub journal : new.journal ≡ told.journal
  pub trace : new.trace ≡ told.trace
  pub later : told.stamp ≤ new.stamp
  pub within : told.stamp ≤ last_stamp → new.stamp ≤ last_stamp

not_last_le : (last stamp : ℕ) → nat_le last stamp ≡ false → stamp + 1 ≤ last
not_last_le last stamp e = grind (arith, nat_tests, e)

above_first : (a b : ℕ) → a ≤ max a b + 1
above_first a b = omega arith

next_past : (other : ℕ) (told : Told) → IsNext told (stamped_past other told)
next_past other told = by (is_last_past other told) refl
  where
    by : (b : Bool) → is_last_past other told ≡ b → IsNext told (if b then told else record told { stamp = max told.stamp other + 1 })
    by true e = record { node = refl; journal = refl; trace = refl; later = omega arith; within = λ le. le }
    by false e = record { node = refl; journal = refl; trace = refl; later = above_first told.stamp other; within = λ le. not_last_le last_stamp (max told.stamp other) e }

pub next_stamped : (told : Told) → IsNext told (stamped told)
next_stamped told = by (is_last told) refl
  where
    by : (b : Bool) → is_last told ≡ b → IsNext told (if b then told else record told { stamp = told.stamp + 1 })
    by true e = record { node = refl; journal = refl; trace = refl; later = omega arith; within = λ le. le }
    by false e = record { node = refl; journal = refl; trace = refl; later = omega arith; within = λ le. not_last_le last_stamp told.stamp e }

-- an event takes its number as well, and a restart is one more round
pub next_begun : (other : ℕ) (told : Told) → IsNext told (begun_past other told)
next_begun other told =
    let next : IsNext (numbered told) (begun_past other told) = next_past other (numbered told) in
    record { node = next.node; journal = next.journal; trace = next.trace; later = next.later; within = next.within }

pub next_round : (told : Told) → IsNext told (stamped (in_round told))
next_round told =
    let next : IsNext (in_round told) (stamped (in_round told)) = next_stamped (in_round told) in
    record { node = next.node; journal = next.journal; trace = next.trace; later = next.later; within = next.within }

-- ---- where it is not the last

pub record IsAbove (stamp other next : ℕ) : Type 0 where
  pub later : stamp < next
  pub past : other < next
  pub low : next < 2 ^ 62

more_than_both : (a b : ℕ) → (a < max a b + 1) × (b < max a b + 1)
more_than_both a b = (omega arith, omega arith)

pub below_limit : (stamp : ℕ) → stamp ≤ last_stamp → stamp < 2 ^ 62
below_limit stamp le = below last_stamp stamp (2 ^ 62) (omega arith) le
  where
    below : (last stamp limit : ℕ) → last < limit → stamp ≤ last → stamp < limit
    below last stamp limit lt le = grind arith

pub rises : (other : ℕ) (told : Told) → is_last_past other told ≡ false → IsAbove told.stamp other (begun_past other told).stamp
rises other told e = by (is_last_past other told) e
  where
    by : (b : Bool) → b ≡ false → IsAbove told.stamp other (if b then numbered told else record (numbered told) { stamp = max told.stamp other + 1 }).stamp
    by true is = absurd (cc is)
    by false is = record {
      later = (more_than_both told.stamp other).0;
      past = (more_than_both told.stamp other).1;
      low = below_limit (max told.stamp other + 1) (not_last_le last_stamp (max told.stamp other) e);
    }

-- no crash stands in place of an event: its stamp was not the last
pub not_last : (may stops at_last replaced : Bool) → planned_after may stops (why_not at_last replaced) ≡ None → at_last ≡ false
not_last may stops true replaced e = absurd (cc e)
not_last may stops false replaced e = refl

pub not_last_aside : (at_last replaced : Bool) → why_not at_last replaced ≡ None → at_last ≡ false
not_last_aside true replaced e = absurd (cc e)
not_last_aside false replaced e = refl

-- and no count was to rise past its last value
pub may_be_made : (may stops at_last replaced : Bool) → planned_after may stops (why_not at_last replaced) ≡ None → may ≡ true
may_be_made may stops true replaced e = absurd (cc e)
may_be_made may stops false true e = absurd (cc e)
may_be_made true stops false false e = refl
may_be_made false stops false false e = absurd (cc e)

-- ---- what is told with one more step

-- the step of node n
abbrev pub step_at : ℕ → Told → Did → List Packet → Option CrashCause → trace.Step
step_at n next did put crash = record { stamp = next.stamp; node = node_no n; acts = next.acts; rounds = next.rounds; did = did; put = put; crash = crash }

module _ (o : Opening) (n : ℕ) (told next : Told) (did : Did) (put : List Packet) (acts : List Act) (crash : Option CrashCause) (at_next : IsNext told next) (node : told.node ≡ node_no n) (world : PacketWorld) where
  next_node : next.node ≡ node_no n
  next_node = at_next.node ∙ node

  entries_are : next.journal ++ map (chronicle.entry_of next.node next.stamp) acts ≡ told.journal ++ entries_of n next.stamp acts
  entries_are = ap (λ (es : List Entry). es ++ map (chronicle.entry_of next.node next.stamp) acts) at_next.journal
      ∙ ap (λ (k : NodeNo). told.journal ++ map (chronicle.entry_of k next.stamp) acts) next_node

  steps_are : next.trace ++ chronicle.step_of next did put crash ∷ [] ≡ told.trace ++ step_at n next did put crash ∷ []
  steps_are = ap (λ (steps : List trace.Step). steps ++ chronicle.step_of next did put crash ∷ []) at_next.trace
      ∙ ap (λ (k : NodeNo). told.trace ++ record { stamp = next.stamp; node = k; acts = next.acts; rounds = next.rounds; did = did; put = put; crash = crash } ∷ []) next_node

  pub tells : HasReached o n (observed_by (told.journal ++ entries_of n next.stamp acts) (told.trace ++ step_at n next did put crash ∷ [])) next.stamp world
      → HasReached o n (observed_of (noted did put acts crash next)) next.stamp world
  tells reached = subst (λ (es : List Entry). HasReached o n (observed_by es (next.trace ++ chronicle.step_of next did put crash ∷ [])) next.stamp world) (sym entries_are)
      (subst (λ (steps : List trace.Step). HasReached o n (observed_by (told.journal ++ entries_of n next.stamp acts) steps) next.stamp world) (sym steps_are) reached)
