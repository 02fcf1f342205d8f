-- The history of a run of all nodes is the merge of what each has in it.
use Rattle.qs_world_merge.proofs.Words.{◌≡◌, ℕ, ◌≤◌, ◌<◌, zero, suc, Bool, true, List, [], ◌∷◌, ◌++◌, Option, Some, None, refl, sym, ap, subst, ◌∙◌, ◌&&◌, map, not, filter, eqb-self, CrashCause, Entry, is_crash, effects_of, Event, entries_of, Source, Move, Cut, Stop, Rise, Meet, Take, cut_with, event_of, is_in_order, is_later, may_move, may_step, moved, step_with, Run, PacketWorld, start, LocalRun, TimedMove, node_of, IsMergedBy, is_after, of_node, entry_key}
use Rattle.std.specs.Prelude.{nat_lt}
use Rattle.std.specs.List.Sorted.{IsSortedBy, ties}
use Rattle.std.proofs.lemmas.Bool.{and_parts}
use Rattle.std.proofs.lemmas.List.{flat_map_more}
use Rattle.qs_book_journal.specs.Merge.{IsMerged, flat}
use Rattle.qs_book_journal.specs.declared.entry.Act.{Act}
use Rattle.qs_book_journal.specs.declared.entry.Act.TheVariants as acts
use Rattle.qs_node_step.specs.Opening.{recovered_of}
use Rattle.qs_world.specs.Moves.{found_of}
use Rattle.qs_world.specs.Posting.{entry_of}
use Rattle.qs_world.specs.World.{Opening}
use Rattle.qs_world_packets.specs.PacketMoves.{Step, Tick}
use Rattle.qs_world_merge.specs.MergedByKey.{flat_of, key_lt}
use Rattle.qs_world_merge.specs.Observed.{Observed, journals_of}
use Rattle.qs_world_merge.proofs.KeyOrder.{OnlyOf, after_then, itself_after, of_both}
use Rattle.qs_world_merge.proofs.MergedOnce.{Follows, is_sorted, is_stable, merged_by_once}

-- ---- a node by itself has entries of its own alone

mine_all : (n stamp : ℕ) (es : List Act) → OnlyOf entry_key n (entries_of n stamp es)
mine_all n stamp [] = refl
mine_all n stamp (e ∷ es) = rw (eqb-self n) (ap (λ (xs : List Entry). entry_of n stamp e ∷ xs) (mine_all n stamp es))

only_more : (n stamp : ℕ) (xs : List Entry) (es : List Act) → OnlyOf entry_key n xs → OnlyOf entry_key n (xs ++ entries_of n stamp es)
only_more n stamp xs es only = of_both entry_key n xs (entries_of n stamp es) ∙ (ap (λ (ys : List Entry). ys ++ of_node entry_key n (entries_of n stamp es)) only ∙ ap (λ (ys : List Entry). xs ++ ys) (mine_all n stamp es))

step_only : (n stamp free : ℕ) (source : Source) (w : PacketWorld) (o : Option Event) → OnlyOf entry_key n w.journal → OnlyOf entry_key n (step_with w n stamp free source o).journal
step_only n stamp free source w None only = only
step_only n stamp free source w (Some event) only = only_more n stamp w.journal (effects_of (w.hosts n).node event free).entries only

cut_only : (n stamp free : ℕ) (is_kept : Bool) (cause : CrashCause) (w : PacketWorld) (o : Option Event) → OnlyOf entry_key n w.journal → OnlyOf entry_key n (cut_with w n stamp free is_kept cause o).journal
cut_only n stamp free is_kept cause w None only = only
cut_only n stamp free is_kept cause w (Some event) only = only_more n stamp w.journal (acts.Crash cause ∷ []) only

moved_only : (move : Move) (w : PacketWorld) → OnlyOf entry_key (node_of move) w.journal → OnlyOf entry_key (node_of move) (moved move w).journal
moved_only (Step n stamp free source) w only = step_only n stamp free source w (event_of w n stamp source) only
moved_only (Cut n stamp free source is_kept cause) w only = cut_only n stamp free is_kept cause w (event_of w n stamp source) only
moved_only (Stop n stamp cause) w only = only_more n stamp w.journal (acts.Crash cause ∷ []) only
moved_only (Rise n stamp inc) w only = only_more n stamp w.journal (acts.Restart inc (map found_of (recovered_of (w.hosts n).log).votes) (recovered_of (w.hosts n).log).committed ∷ []) only
moved_only (Meet n stamp m p) w only = only
moved_only (Take n m p) w only = only
moved_only (Tick n m stamp) w only = only

pub run_only : (clients_at : ℕ → ℕ) (n at : ℕ) (old : PacketWorld) (ts : List TimedMove) (new : PacketWorld) → LocalRun clients_at n at old ts new → OnlyOf entry_key n old.journal → OnlyOf entry_key n new.journal
run_only clients_at n at old [] new run only = subst (λ (w : PacketWorld). OnlyOf entry_key n w.journal) (sym run) only
run_only clients_at n at old (t ∷ ts) new run only = run_only clients_at n t.stamp (moved t.move old) ts new run.1
    (subst (λ (k : ℕ). OnlyOf entry_key k (moved t.move old).journal) run.0.of_node (moved_only t.move old (subst (λ (k : ℕ). OnlyOf entry_key k old.journal) (sym run.0.of_node) only)))

-- ---- the entries of a run stand in order

abbrev last_of : ℕ × ℕ → List Entry → ℕ × ℕ
last_of last [] = last
last_of last (x ∷ xs) = last_of (entry_key x) xs

follows_append : (last : ℕ × ℕ) (xs ys : List Entry) → Follows entry_key last xs → Follows entry_key (last_of last xs) ys → Follows entry_key last (xs ++ ys)
follows_append last [] ys a b = b
follows_append last (x ∷ xs) ys a b = (a.0, follows_append (entry_key x) xs ys a.1 b)

last_append : (last : ℕ × ℕ) (xs ys : List Entry) → last_of last (xs ++ ys) ≡ last_of (last_of last xs) ys
last_append last [] ys = refl
last_append last (x ∷ xs) ys = last_append (entry_key x) xs ys

follows_step : (n stamp : ℕ) (last : ℕ × ℕ) (es : List Act) → is_after last stamp n ≡ true → Follows entry_key last (entries_of n stamp es)
follows_step n stamp last [] after = tt
follows_step n stamp last (e ∷ es) after = (after, follows_step n stamp (stamp, n) es (itself_after stamp n))

last_step : (n stamp : ℕ) (last : ℕ × ℕ) (es : List Act) → is_after last stamp n ≡ true → is_after (last_of last (entries_of n stamp es)) stamp n ≡ true
last_step n stamp last [] after = after
last_step n stamp last (e ∷ es) after = last_step n stamp (stamp, n) es (itself_after stamp n)

-- the entries stand in order, and the last step of the world is not before the last entry
record IsInOrder (w : PacketWorld) : Type 0 where
  rows : Follows entry_key (0, 0) w.journal
  low : is_after (last_of (0, 0) w.journal) w.last.0 w.last.1 ≡ true

-- the same with the entries of a step
record More (journal : List Entry) (n stamp : ℕ) (es : List Act) : Type 0 where
  rows : Follows entry_key (0, 0) (journal ++ entries_of n stamp es)
  low : is_after (last_of (0, 0) (journal ++ entries_of n stamp es)) stamp n ≡ true

more : (w : PacketWorld) (n stamp : ℕ) (es : List Act) → IsInOrder w → is_after w.last stamp n ≡ true → More w.journal n stamp es
more w n stamp es in_order after =
    let here = after_then (last_of (0, 0) w.journal) w.last stamp n in_order.low after in
    record {
      rows = follows_append (0, 0) w.journal (entries_of n stamp es) in_order.rows (follows_step n stamp (last_of (0, 0) w.journal) es here);
      low = subst (λ (k : ℕ × ℕ). is_after k stamp n ≡ true) (sym (last_append (0, 0) w.journal (entries_of n stamp es))) (last_step n stamp (last_of (0, 0) w.journal) es here);
    }

step_rows : (n stamp free : ℕ) (source : Source) (w : PacketWorld) (o : Option Event) → IsInOrder w → is_after w.last stamp n ≡ true → IsInOrder (step_with w n stamp free source o)
step_rows n stamp free source w None r after = r
step_rows n stamp free source w (Some event) r after = let m = more w n stamp (effects_of (w.hosts n).node event free).entries r after in record { rows = m.rows; low = m.low }

cut_rows : (n stamp free : ℕ) (is_kept : Bool) (cause : CrashCause) (w : PacketWorld) (o : Option Event) → IsInOrder w → is_after w.last stamp n ≡ true → IsInOrder (cut_with w n stamp free is_kept cause o)
cut_rows n stamp free is_kept cause w None r after = r
cut_rows n stamp free is_kept cause w (Some event) r after = let m = more w n stamp (acts.Crash cause ∷ []) r after in record { rows = m.rows; low = m.low }

order_after : (w : PacketWorld) (n stamp : ℕ) → is_in_order w n stamp ≡ true → is_after w.last stamp n ≡ true
order_after w n stamp is = (and_parts (is_after w.last stamp n) _ (and_parts (nat_lt n w.size && _) _ is).1).0

later_after : (w : PacketWorld) (n stamp : ℕ) → is_later w n stamp ≡ true → is_after w.last stamp n ≡ true
later_after w n stamp is = order_after w n stamp (and_parts (is_in_order w n stamp) _ is).0

step_after : (w : PacketWorld) (n stamp : ℕ) (source : Source) → may_step w n stamp source ≡ true → is_after w.last stamp n ≡ true
step_after w n stamp source may = later_after w n stamp (and_parts (is_later w n stamp) _ (and_parts (w.network.up n) _ may).1).0

moved_rows : (move : Move) (w : PacketWorld) → may_move w move ≡ true → IsInOrder w → IsInOrder (moved move w)
moved_rows (Step n stamp free source) w may r = step_rows n stamp free source w (event_of w n stamp source) r (step_after w n stamp source may)
moved_rows (Cut n stamp free source is_kept cause) w may r = cut_rows n stamp free is_kept cause w (event_of w n stamp source) r (step_after w n stamp source (and_parts (may_step w n stamp source) (is_crash cause) may).0)
moved_rows (Stop n stamp cause) w may r =
    let m = more w n stamp (acts.Crash cause ∷ []) r (order_after w n stamp (and_parts (is_in_order w n stamp) _ (and_parts (w.network.up n) _ may).1).0) in record { rows = m.rows; low = m.low }
moved_rows (Rise n stamp inc) w may r =
    let m = more w n stamp (acts.Restart inc (map found_of (recovered_of (w.hosts n).log).votes) (recovered_of (w.hosts n).log).committed ∷ []) r (order_after w n stamp (and_parts (is_in_order w n stamp) _ (and_parts (not (w.network.up n)) _ may).1).0) in record { rows = m.rows; low = m.low }
moved_rows (Meet n stamp m p) w may r =
    record { rows = r.rows; low = after_then (last_of (0, 0) w.journal) w.last stamp n r.low (later_after w n stamp (and_parts (is_later w n stamp) _ (and_parts (w.network.up n) _ may).1).0) }
moved_rows (Take n m p) w may r = record { rows = r.rows; low = r.low }
moved_rows (Tick n m stamp) w may r = record { rows = r.rows; low = r.low }

run_rows : (moves : List Move) (old new : PacketWorld) → Run old moves new → IsInOrder old → IsInOrder new
run_rows [] old new run r = subst (λ (w : PacketWorld). IsInOrder w) (sym run) r
run_rows (move ∷ moves) old new run r = run_rows moves (moved move old) new run.1 (moved_rows move old run.0.may r)

pub journal_sorted : (o : Opening) (moves : List Move) (new : PacketWorld) → Run (start o) moves new → IsSortedBy (key_lt entry_key) new.journal
journal_sorted o moves new run = is_sorted entry_key (0, 0) new.journal (run_rows moves (start o) new run (record { rows = tt; low = itself_after 0 0 })).rows

-- ---- and are the merge

module _ (observed : ℕ → Observed) where
  abbrev journal_in : ℕ → List Entry
  journal_in n = (observed n).journal

  flat_journals : (size : ℕ) → flat (journals_of size observed) ≡ flat_of size journal_in
  flat_journals zero = refl
  flat_journals (suc n) = sym (flat_map_more (λ (l : List Entry). l) [] (journals_of n observed) (journal_in n)) ∙ ap (λ (l : List Entry). l ++ journal_in n) (flat_journals n)

  by_key : (size : ℕ) (merged : List Entry) → IsMerged (journals_of size observed) merged → IsMergedBy entry_key size journal_in merged
  by_key size merged is = record {
    in_order = is.in_order;
    as_they_stood = λ x. is.as_they_stood x ∙ ap (λ (l : List Entry). filter (ties (key_lt entry_key) x) l) (flat_journals size);
  }

  -- a history in order that has of each node its journal is any merge of the journals
  pub journal_merged : (size : ℕ) (history : List Entry) → IsSortedBy (key_lt entry_key) history → ((n : ℕ) → n < size → OnlyOf entry_key n (journal_in n)) → ((n : ℕ) → n < size → of_node entry_key n history ≡ journal_in n)
      → ((n : ℕ) → size ≤ n → of_node entry_key n history ≡ []) → (merged : List Entry) → IsMerged (journals_of size observed) merged → history ≡ merged
  journal_merged size history sorted only mine none merged is =
      merged_by_once entry_key size journal_in history merged (record { in_order = sorted; as_they_stood = is_stable entry_key size journal_in history only mine none }) (by_key size merged is)
