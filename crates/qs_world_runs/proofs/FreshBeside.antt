-- As an incarnation begins, the machine has beside its node all that it is to have: nothing was issued in it, what the node knows is what its log left open, and of what began here the outcome is kept.
use Rattle.qs_world_runs.proofs.Words.{◌≡◌, inl, inr, ℕ, ◌<◌, ◌==◌, ◌&&◌, ◌||◌, ◌^◌, not, Bool, true, false, List, ◌++◌, length, Option, Some, None, refl, sym, ap, subst, ◌∙◌, arith, is_some, nat_lt, nat_tests, Global, slice_get, NodeNo, ServerNo, Tid, same_node, BookValue, cell_of_transaction, find_transaction, TransactionValue, is_commit, Cell, class_of, is_two_phase, ServerValue, Prepared, Recovery, new_manager, Setting, member_of, MemberPart, Participant, HoldsBeside, IsTrueCause}
use Rattle.qs_world_runs.proofs.Words.{has_issued, doubt_at, at_server, part_or_new, is_kept, Lasts, HoldsLogged, Every, HasNodeFacts, clash, HoldsRunning}
use Rattle.qs_node_kept.specs.declared.kept.Kept.{Kept}
use Rattle.qs_book_machine.specs.Clauses.{note_text}
use Rattle.qs_book_machine.specs.Nodes as machine
use Rattle.qs_book_machine.specs.Restart.{member_at}
use Rattle.qs_book_machine.specs.Transaction.{is_abort, is_open, part_of}
use Rattle.qs_book_machine.specs.declared.transaction.Cell.TheVariants as cells
use Rattle.qs_restart.specs.Recovery.{in_doubt, untold}
use Rattle.qs_node_step.specs.Answering.{was_committed}
use Rattle.qs_node_step.specs.State.{NodeValue}
use Rattle.qs_tm.specs.Manager as tm
use Rattle.qs_tm.specs.Members as rules
use Rattle.qs_world_lawful.specs.Beside.{HasOwner, HoldsEnded, HoldsPart, HoldsReader, HoldsReads, HoldsStranger, HoldsTidBeside}
use Rattle.qs_world_lawful.specs.Doubtful.{member_as, share_as}
use Rattle.qs_world_lawful.specs.Holds.{HoldsMember}
use Rattle.qs_world_lawful.proofs.FreshFace.{Fresh, FreshAt, IsDoubt, IsOldLoan, known_as, node, tables, tid_held}
use Rattle.qs_world_lawful.proofs.Reopened as reopened
use Rattle.qs_world_lawful.proofs.Reopened.{IsReopened}
use Rattle.qs_world_lawful.proofs.TakenUp.{all_alike, outcome_before}
use Rattle.qs_world_runs.proofs.BareTaken.{IsBare, IsBareManager, all_bare}
use Rattle.qs_world_runs.proofs.RecordsStand.{records_stand}

-- what the machine has then, beside what its log says
pub record BeginsWell (book : BookValue) (state : machine.NodeValue) (node : NodeValue) : Type 0 where
  pub there : slice_get book.nodes node.setting.node.0 ≡ Some state
  pub inc : state.inc ≡ node.setting.inc
  pub owners : (tid : Tid) (tx : TransactionValue) → find_transaction book tid ≡ Some tx → HasOwner book tx
  pub unissued : (tid : Tid) (tx : TransactionValue) (text : List ℕ) → find_transaction book tid ≡ Some tx → has_issued tx node.setting.node node.setting.inc text ≡ false
  pub committed : (tid : Tid) (tx : TransactionValue) → tid.home ≡ node.setting.node → find_transaction book tid ≡ Some tx → is_commit tx.cell ≡ true → was_committed tid node ≡ true
  pub lasts : Lasts book

-- a vote that was taken up is none that only read
taken_read : (server : ServerNo) (v : Prepared) → is_two_phase (class_of server.0) ≡ true → rules.has_read server (member_as (Some v)) ≡ true → ⊥
taken_read server v two read = by (is_two_phase (class_of server.0)) (v.covers == 0) two read
  where
    by : (a b : Bool) → a ≡ true → (not a || ((b && false) || false)) ≡ true → ⊥
    by true true e h = cc h
    by true false e h = cc h
    by false b e h = cc e

module _ (alloc : Global) (setting : Setting) (saved : Kept) (book : BookValue) (log : Recovery) (state : machine.NodeValue) (r : Fresh book setting.node setting.inc log) (loans : Every (IsOldLoan book setting.inc) saved.loans)
    (w : BeginsWell book state (node alloc setting saved book log r loans)) (logged : HoldsLogged setting.node.0 book state log) (facts : HasNodeFacts (node alloc setting saved book log r loans)) where
  abbrev begins : NodeValue
  begins = node alloc setting saved book log r loans

  abbrev here : NodeNo
  here = setting.node

  bare : IsBareManager begins.manager
  bare = all_bare (in_doubt log ++ untold log) (new_manager alloc setting) (record { parts = λ tid part known. absurd (cc known); ticks = refl })

  module _ (tid : Tid) where
    abbrev known : Option Participant
    known = tm.part_of tid begins.manager

    abbrev Doubt : Type 0
    Doubt = IsDoubt book here log tid

    k : IsReopened (same_node tid.home here) log.committed tid (IsDoubt book here log tid) (λ s. doubt_at log.prepared tid s) (tm.part_of tid begins.manager)
    k = known_as alloc setting saved book log r loans tid

    marks : (part : Participant) → known ≡ Some part → reopened.IsMarkedAs (same_node tid.home here) log.committed tid (IsDoubt book here log tid) part
    marks part is = k.marks part is

    stands : (part : Participant) → known ≡ Some part → is_some (find_transaction book tid) ≡ true
    stands part is = of (marks part is)
      where
        committed_stands : (o : Option TransactionValue) → cell_of_transaction o ≡ Some cells.Commit → is_some o ≡ true
        committed_stands None e = absurd (cc e)
        committed_stands (Some tx) e = refl

        of : reopened.IsMarkedAs (same_node tid.home here) log.committed tid (IsDoubt book here log tid) part → is_some (find_transaction book tid) ≡ true
        of (inl vote) = vote.so.stands
        of (inr commit) = committed_stands (find_transaction book tid) (r.committed tid commit.among)

    -- what a home takes up is decided
    decided : (part : Participant) → known ≡ Some part → part.engage.home ≡ true → part.outcome ≡ None → ⊥
    decided part is home undecided = of (marks part is)
      where
        own : same_node tid.home here ≡ true
        own = sym (facts.parts tid part is).homed ∙ home

        aborts : (b : Bool) → b ≡ true → part.outcome ≡ outcome_before b → ⊥
        aborts true e at = cc (sym undecided ∙ at)
        aborts false e at = cc e

        of : reopened.IsMarkedAs (same_node tid.home here) log.committed tid (IsDoubt book here log tid) part → ⊥
        of (inl vote) = aborts (same_node tid.home here) own vote.outcome
        of (inr commit) = cc (sym undecided ∙ commit.outcome)

    -- of what is unknown nothing is in doubt
    no_doubt : known ≡ None → (s : ℕ) → s < 7 → doubt_at log.prepared tid s ≡ None
    no_doubt none s low = by (doubt_at log.prepared tid s) (sym (k.members s low) ∙ (ap (λ (o : Option Participant). member_of (part_or_new o) (record { 0 = s })) none ∙ all_alike 7 s rules.no_member))
      where
        by : (d : Option Prepared) → member_as d ≡ rules.no_member → d ≡ None
        by None e = refl
        by (Some v) e = absurd (clash (sym (ap (λ (m : MemberPart). m.fresh) e)))

    module _ (tx : TransactionValue) (found : find_transaction book tid ≡ Some tx) where
      f : FreshAt here setting.inc log tid tx
      f = r.at tid tx found

      none_pending : doubt_at log.prepared tid rules.files_no.0 ≡ None → (part_of tx (at_server here rules.files_no) setting.inc).pending ≡ 0
      none_pending none = f.pending ∙ ap (λ (d : Option Prepared). length (share_as d).changes) none

      -- what began here is decided
      shut : tid.home ≡ here → (c : Cell) → tx.cell ≡ c → is_open c ≡ true → ⊥
      shut home c is undecided = apart tid.inc state.inc setting.inc ((w.lasts.nodes here state w.there).open_now tid tx found home (ap is_open is ∙ undecided)).inc w.inc (f.begun home)
        where
          apart : (a b c : ℕ) → a ≡ b → b ≡ c → a < c → ⊥
          apart a b c p q less = grind (arith, p, q, less)

      unissued : (text : List ℕ) → has_issued tx here setting.inc text ≡ false
      unissued text = w.unissued tid tx text found

      stranger : known ≡ None → HoldsStranger here setting.inc tid tx
      stranger none = record { unissued = λ count low. unissued (note_text tid here.0 count); unchanged = none_pending (no_doubt none 0 (grind arith)) }

      ended : tid.home ≡ here → HoldsEnded begins tid tx
      ended home = record { committed = λ is. w.committed tid tx home found is; unknown = λ none uncommitted. by tx.cell refl uncommitted }
        where
          by : (c : Cell) → tx.cell ≡ c → was_committed tid begins ≡ false → is_abort tx.cell ≡ true
          by cells.Abort is uncommitted = ap is_abort is
          by cells.Commit is uncommitted = absurd (clash (sym uncommitted ∙ w.committed tid tx home found (ap is_commit is)))
          by cells.Open is uncommitted = absurd (shut home cells.Open is refl)

      module _ (part : Participant) (is : known ≡ Some part) where
        its : IsBare part
        its = bare.parts tid part is

        member_is : (server : ServerNo) → is_kept server ≡ true → member_of part server ≡ member_as (doubt_at log.prepared tid server.0)
        member_is server kept = ap (λ (o : Option Participant). member_of (part_or_new o) server) (sym is) ∙ k.members server.0 (low server.0 kept)
          where
            low : (s : ℕ) → nat_lt s 7 ≡ true → s < 7
            low s e = grind (arith, nat_tests, e)

        reader : (server : ServerNo) → is_kept server ≡ true → part.outcome ≡ None → HoldsReader here setting.inc tx part server
        reader server kept undecided = by (doubt_at log.prepared tid server.0) refl
          where
            involved : part.involved ≡ true
            involved = of (marks part is)
              where
                of : reopened.IsMarkedAs (same_node tid.home here) log.committed tid (IsDoubt book here log tid) part → part.involved ≡ true
                of (inl vote) = vote.involved
                of (inr commit) = absurd (cc (sym undecided ∙ commit.outcome))

            by : (d : Option Prepared) → doubt_at log.prepared tid server.0 ≡ d → HoldsReader here setting.inc tx part server
            by None at = record {
              anew = λ two read. (subst (HoldsMember tx (member_at here.0 server.0) setting.inc) (ap member_as at) (f.members server.0)).covers two;
              unfresh = λ two read. ap (λ (m : MemberPart). m.fresh && not (rules.is_let_go m)) (member_is server kept ∙ ap member_as at);
              told = λ class fresh. involved;
            }
            by (Some v) at = record {
              anew = λ two read. absurd (taken_read server v two (ap (rules.has_read server) (sym (member_is server kept ∙ ap member_as at)) ∙ read));
              unfresh = λ two read. absurd (taken_read server v two (ap (rules.has_read server) (sym (member_is server kept ∙ ap member_as at)) ∙ read));
              told = λ class fresh. involved;
            }

        unchanged : rules.has_read rules.files_no (member_of part rules.files_no) ≡ true → (part_of tx (at_server here rules.files_no) setting.inc).pending ≡ 0
        unchanged read = by (doubt_at log.prepared tid rules.files_no.0) refl
          where
            by : (d : Option Prepared) → doubt_at log.prepared tid rules.files_no.0 ≡ d → (part_of tx (at_server here rules.files_no) setting.inc).pending ≡ 0
            by None at = none_pending at
            by (Some v) at = absurd (taken_read rules.files_no v refl (ap (rules.has_read rules.files_no) (sym (member_is rules.files_no refl ∙ ap member_as at)) ∙ read))

        reads : part.outcome ≡ None → HoldsReads here setting.inc tid tx part
        reads undecided = record {
          readers = λ server kept. reader server kept undecided;
          unchanged = unchanged;
          counted = λ count low said. absurd (clash (sym (unissued (note_text tid here.0 count)) ∙ said));
        }

        part_held : HoldsPart book state begins tid tx part
        part_held = record {
          notes = record {
            issued = λ count low said. absurd (clash (sym (unissued (note_text tid here.0 count)) ∙ said));
            served = λ count low noted. absurd (clash (sym (f.noted (note_text tid here.0 count)) ∙ noted));
          };
          asked = λ asked. absurd (clash (sym k.asked ∙ (ap (λ (o : Option Participant). (part_or_new o).asked) is ∙ asked)));
          outcome = λ o at. (tid_held alloc setting saved book log r loans tid tx found).outcome o (ap (λ (x : Option Participant). (part_or_new x).outcome) is ∙ at);
          causes = λ undecided. subst (Every (IsTrueCause book tid)) (sym its.causes) tt;
          reads = reads;
          begun_at = λ home undecided. absurd (decided part is home undecided);
          records = λ home undecided ended. absurd (decided part is home undecided);
        }

    at_held : HoldsTidBeside book state begins tid
    at_held = record {
      stands = stands;
      parts = λ tx part found is. part_held tx found part is;
      strangers = λ tx found none undone. stranger tx found none;
      unbegun = λ nothing. records_stand here.0 book state log logged r.committed tid nothing;
      ended = λ tx home found. ended tx found home;
    }

  beside_held : HoldsBeside book begins
  beside_held = record {
    state = state;
    there = w.there;
    inc = w.inc;
    owners = w.owners;
    at = at_held;
    clock = record { ticks = ap (λ (s : ServerValue). s.timers.ticks) (tables alloc setting saved book log r loans).timers_same ∙ sym bare.ticks; room = subst (λ (t : ℕ). t < 2 ^ 62) (sym bare.ticks) (grind arith) };
  }

  pub running_held : HoldsRunning book begins
  running_held = record {
    beside = beside_held;
    young = λ tid part is home undecided. absurd (decided tid part is home undecided);
  }
