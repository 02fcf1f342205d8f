-- What has an owner, and what commit was asked for, began in the run, in an incarnation of its home that had not begun as the run opened: no log of the
-- opening can name it.
use Rattle.qs_world_runs.proofs.Words.{◌≡◌, ◌⊎◌, inl, inr, ℕ, ◌+◌, ◌≤◌, ◌<◌, ◌||◌, not, arith, nat_lt, true, false, List, [], ◌∷◌, Option, Some, None, zero, suc, refl, sym, ap, subst, ◌∙◌, nat_tests, slice_get_within, option_map, is_some, length, slice_get, ClientNo, NodeNo, Tid, Entry, ran_run, Inv, BookValue, find_transaction, inc_at, book_after, effect, TransactionValue, Opened, book_of, opened_from, IsOpening, Opening, same_or_apart, opens_soundly, Actor, Begins, Turning, actor, by_entry}
use Rattle.qs_world_runs.proofs.Words.{opening_empty, Turns, IsOfRun, lt-ltb, le_le, eq_le, none_some, zero_plus}
use Rattle.std.proofs.lemmas.List.{length-map}
use Rattle.std.proofs.lemmas.Option.{slice_get-map}
use Rattle.qs_book_laws.proofs.Openings.{opening_holds, opening_names}
use Rattle.qs_book_laws.proofs.Pasts.{inc_rises}
use Rattle.qs_book_laws.proofs.Steps.{stepped}
use Rattle.qs_book_machine.specs.Lawful.{IsLawful}
use Rattle.qs_book_machine.specs.Nodes as machine
use Rattle.qs_book_machine.specs.Opening.{opened_node}
use Rattle.qs_world_lawful.proofs.Apart.{Apart}
use Rattle.qs_world_lawful.proofs.OpenedVotes.{opened_there}
use Rattle.qs_world_lawful.proofs.Turning.{stood}
use Rattle.qs_world_runs.specs.Rooms.{AskedOfRun, OwnedOfRun}
use Rattle.qs_world_runs.proofs.StoodIdle.{requests_owned}

-- each node opens in the incarnation of its setting
pub opened_inc : (o : Opening) → IsOpening o → (m : NodeNo) → m.0 < o.size → inc_at (book_of o) m ≡ (o.settings m.0).inc
opened_inc o opens m low = ap (λ (ns : List machine.NodeValue). elim (slice_get ns m.0) [ None ↦ 0 | Some state ↦ state.inc ]) (opening_names opened (opens_soundly o opens)).nodes
    ∙ ap (λ (s : Option machine.NodeValue). elim s [ None ↦ 0 | Some state ↦ state.inc ]) (slice_get-map opened_node opened m.0 ∙ ap (option_map opened_node) (opened_there o 0 o.size m.0 low)) ∙ ap (λ (k : ℕ). (o.settings k).inc) (zero_plus m.0)
  where
    opened : List Opened
    opened = opened_from o 0 o.size

opened_length : (o : Opening) (n more : ℕ) → length (opened_from o n more) ≡ more
opened_length o n zero = refl
opened_length o n (suc more) = ap (λ (k : ℕ). suc k) (opened_length o (n + 1) more)

module _ (o : Opening) (opens : IsOpening o) where
  -- each transaction that has an owner
  abbrev AreOfRun : BookValue → Type 0
  AreOfRun book = (tid : Tid) (tx : TransactionValue) → find_transaction book tid ≡ Some tx → is_some tx.owner ≡ true → IsOfRun o tid

  -- no node is in an incarnation before its first
  abbrev AreLater : BookValue → Type 0
  AreLater book = (m : NodeNo) → m.0 < o.size → (o.settings m.0).inc ≤ inc_at book m

  begun_of : (book : BookValue) (entry : Entry) → length book.nodes ≡ o.size → AreLater book → (state : machine.NodeValue) → slice_get book.nodes entry.node.0 ≡ Some state
      → (tid : Tid) → tid.home.0 ≡ entry.node.0 → tid.inc ≡ inc_at book entry.node → IsOfRun o tid
  begun_of book entry sized later state there tid home inc = of tid.home.0 home
    where
      low : entry.node.0 < o.size
      low = subst (λ (k : ℕ). entry.node.0 < k) sized (slice_get_within book.nodes entry.node.0 state there)

      not_less : (a b c : ℕ) → a ≡ b → c ≤ b → nat_lt a c ≡ false
      not_less a b c e k = grind (arith, nat_tests, e, k)

      of : (h : ℕ) → h ≡ entry.node.0 → (not (nat_lt h o.size) || nat_lt tid.inc (o.settings h).inc) ≡ false
      of h e = subst (λ (k : ℕ). (not (nat_lt k o.size) || nat_lt tid.inc (o.settings k).inc) ≡ false) (sym e)
          (rw (lt-ltb entry.node.0 o.size low) (not_less tid.inc (inc_at book entry.node) (o.settings entry.node.0).inc inc (later entry.node low)))

  entry_of_run : (book : BookValue) (entry : Entry) → length book.nodes ≡ o.size → AreLater book → Actor book entry → Begins book entry ⊎ Turning book entry → AreOfRun book → AreOfRun (effect book entry)
  entry_of_run book entry sized later a (inl b) each tid tx found owned = by (same_or_apart b.tid tid)
    where
      by : (b.tid ≡ tid) ⊎ Apart b.tid tid → IsOfRun o tid
      by (inl same) = subst (IsOfRun o) same (begun_of book entry sized later a.state a.there b.tid b.home b.inc)
      by (inr far) = each tid tx (sym (b.others tid far) ∙ found) owned
  entry_of_run book entry sized later a (inr t) each tid tx found owned =
      let p = stood (Turns entry.node.0 t.now book.place) book (effect book entry) t.turned tid tx found in
      each tid p.0 p.1 (subst (λ (c : Option ClientNo). is_some c ≡ true) p.2.owner owned)

  ran_of_run : (entries : List Entry) (book : BookValue) → Inv book → IsLawful book entries → length book.nodes ≡ o.size → AreLater book → AreOfRun book → AreOfRun (book_after book entries)
  ran_of_run [] book i lawful sized later each = each
  ran_of_run (entry ∷ entries) book i lawful sized later each = ran_of_run entries (effect book entry) (stepped book entry i lawful.0).inv lawful.1 (ran_run (entry ∷ []) book ∙ sized)
      (λ m low. le_le (o.settings m.0).inc (inc_at book m) (inc_at (effect book entry) m) (later m low) (inc_rises m 0 (entry ∷ []) book (lawful.0, tt)))
      (entry_of_run book entry sized later (actor book entry lawful.0) (by_entry book entry i lawful.0) each)

  history_of_run : (history : List Entry) → IsLawful (book_of o) history → AreOfRun (book_after (book_of o) history)
  history_of_run history lawful = ran_of_run history (book_of o) (opening_holds opened (opens_soundly o opens)) lawful
      (ap length (opening_names opened (opens_soundly o opens)).nodes ∙ (length-map opened opened_node ∙ opened_length o 0 o.size))
      (λ m low. eq_le (o.settings m.0).inc (inc_at (book_of o) m) (sym (opened_inc o opens m low)))
      (λ tid tx found owned. absurd (none_some tx.owner (opening_empty opened tid tx found).owner owned))
    where
      opened : List Opened
      opened = opened_from o 0 o.size

pub owned_of_run : OwnedOfRun
owned_of_run o opens history lawful tid tx found owned = history_of_run o opens history lawful tid tx found owned

pub asked_of_run : AskedOfRun
asked_of_run o opens history lawful tid tx found asked = by tx.owner refl
  where
    by : (owner : Option ClientNo) → tx.owner ≡ owner → IsOfRun o tid
    by None is = absurd (none_some tx.asked (requests_owned o opens history lawful tid tx found is).0 asked)
    by (Some client) is = owned_of_run o opens history lawful tid tx found (rw is refl)
