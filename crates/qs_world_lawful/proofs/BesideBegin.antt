-- A transaction begins: what the machine has beside the node stands on.
use Rattle.qs_world_lawful.proofs.Words.{◌≡◌, ◌⊎◌, inl, inr, ℕ, ◌+◌, true, Some, None, refl, sym, ap, subst, ◌∙◌, is_at, ◌&&◌, not, is_some, slice_get, tid_exact, tid_cmp, ClientNo, NodeNo, Tid, Act, ScriptLine, tid_itself, changed_at_here, lookup_put, lookup_put_apart, Inv, BookValue, find_transaction, ticks_at, broken, effect, TransactionValue, begun, is_commit, Cause, enter, begin_as, put_label, Work, with_manager, begun_participant, MemberPart, Participant, entry_of, InRun, HasOwner}
use Rattle.qs_world_lawful.proofs.Words.{HoldsBeside, HoldsPart, HoldsTidBeside, IsTrueCause, book_at}
use Rattle.qs_book_journal.specs.declared.entry.Act.TheVariants as acts
use Rattle.qs_book_machine.specs.Nodes as machine
use Rattle.qs_ops.specs.declared.answer.Answer.TheVariants as answers
use Rattle.qs_node_step.specs.State.{NodeValue}
use Rattle.qs_tm.specs.Manager as tm
use Rattle.qs_tm.specs.Members as rules
use Rattle.qs_world_lawful.proofs.Apart.{Apart, same_or_apart}
use Rattle.qs_world_lawful.proofs.Begins.{new_member}
use Rattle.qs_world_lawful.proofs.BesideActs.{others_begun}
use Rattle.qs_world_lawful.proofs.BesideGoes.{Goes, goes_entry, goes_then}
use Rattle.qs_world_lawful.proofs.BesideOwn.{beside_one}
use Rattle.qs_world_lawful.proofs.BesidePlain.{MachineOn, goes_answer}
use Rattle.qs_world_lawful.proofs.Faces.{put_apart}
use Rattle.qs_world_lawful.proofs.LogActs.{fresh}
use Rattle.qs_world_lawful.proofs.Truths.{clash, of_some}

module _ (stamp : ℕ) (before : BookValue) (run : InRun before) (work : Work) (line : ScriptLine) (owner : is_some (slice_get (book_at stamp before work).owners line.client.0) ≡ true)
    (clock : (state : machine.NodeValue) → slice_get (book_at stamp before work).nodes work.node.setting.node.0 ≡ Some state → state.timers.ticks ≡ work.node.manager.ticks) where
  abbrev node : NodeValue
  node = work.node

  abbrev own_node : NodeNo
  own_node = node.setting.node

  abbrev inc : ℕ
  inc = node.setting.inc

  abbrev book : BookValue
  book = book_at stamp before work

  abbrev tid : Tid
  tid = tm.next_tid node.manager

  abbrev begun_work : Work
  begun_work = enter (acts.Begin tid line.label line.client) (put_label (record { label = line.label; tid = Some tid; owner = Some line.client }) (with_manager (tm.begin line.client) work))

  abbrev new_node : NodeValue
  new_node = begun_work.node

  abbrev act : Act
  act = acts.Begin tid line.label line.client

  abbrev new : BookValue
  new = effect book (entry_of own_node.0 stamp act)

  abbrev its : TransactionValue
  its = begun line.label line.client (ticks_at (slice_get book.nodes own_node.0))

  abbrev part : Participant
  part = begun_participant line.client node.manager.ticks

  module _ (fine : broken book (entry_of own_node.0 stamp act) ≡ None) (inv : Inv book) (causes : (t : Tid) (c : Cause) → IsTrueCause book t c → IsTrueCause new t c) (h : HoldsBeside book node) where
    none : find_transaction book tid ≡ None
    none = fresh book stamp own_node.0 h.state inv h.there tid line.label line.client fine

    found_now : find_transaction new tid ≡ Some its
    found_now = lookup_put tid_cmp tid its (tid_itself tid) book.transactions

    machine_on : MachineOn book new own_node.0 h.state
    machine_on = record { next = record h.state { begun = tid.seq }; there = changed_at_here (λ s. record s { begun = tid.seq }) book.nodes own_node.0 h.state h.there; inc = refl; owners = λ was t l at client owns. of was t l at client owns (same_or_apart tid t) }
      where
        of : ((t : Tid) (x : TransactionValue) → find_transaction book t ≡ Some x → HasOwner book x) → (t : Tid) (l : TransactionValue) → find_transaction new t ≡ Some l → (client : ClientNo) → l.owner ≡ Some client → (tid ≡ t) ⊎ Apart tid t
            → is_some (slice_get book.owners client.0) ≡ true
        of was t l at client owns (inl same) = subst (λ (c : ClientNo). is_some (slice_get book.owners c.0) ≡ true) (of_some (ap (λ (x : TransactionValue). x.owner) (of_some (sym found_now ∙ subst (λ (u : Tid). find_transaction new u ≡ Some l) (sym same) at)) ∙ owns)) owner
        of was t l at client owns (inr far) = was t l (sym (lookup_put_apart tid_cmp tid its (tid_exact tid) (is_at (tid_cmp t)) far.at book.transactions) ∙ at) client owns

    known_now : tm.part_of tid new_node.manager ≡ Some part
    known_now = lookup_put tid_cmp tid part (tid_itself tid) node.manager.known

    part_now : HoldsPart new (record h.state { begun = tid.seq }) new_node tid its part
    part_now = record {
      notes = record { issued = λ count one is. absurd (cc is); served = λ count one is. absurd (cc is) };
      asked = λ is. absurd (cc is);
      outcome = λ o is. absurd (cc is);
      causes = λ un. tt;
      reads = λ un. record {
        readers = λ server kept. record {
          anew = λ two read. refl;
          unfresh = λ two read. ap (λ (m : MemberPart). m.fresh && not (rules.is_let_go m)) (new_member true server);
          told = λ told is. absurd (clash (sym (ap (λ (m : MemberPart). m.fresh) (new_member true server)) ∙ is));
        };
        unchanged = λ read. refl;
        counted = λ count one is. absurd (cc is);
      };
      begun_at = λ home un. ap ticks_at h.there ∙ clock h.state h.there;
      records = λ home un unended. (h.at tid).unbegun none;
    }

    own : HoldsTidBeside new (record h.state { begun = tid.seq }) new_node tid
    own = record {
      stands = λ p at. ap is_some found_now;
      parts = λ l p at is. subst (λ (x : TransactionValue). HoldsPart new (record h.state { begun = tid.seq }) new_node tid x p) (of_some (sym found_now ∙ at)) (subst (HoldsPart new (record h.state { begun = tid.seq }) new_node tid its) (of_some (sym known_now ∙ is)) part_now);
      strangers = λ l at is open_still. absurd (lost (sym known_now ∙ is));
      unbegun = λ is. absurd (no (sym found_now ∙ is));
      ended = λ l home at. record { committed = λ is. absurd (clash (ap (λ (x : TransactionValue). is_commit x.cell) (of_some (sym found_now ∙ at)) ∙ is)); unknown = λ is kept. absurd (lost (sym known_now ∙ is)) };
    }
      where
        no : {x : TransactionValue} → Some x ≡ None → ⊥
        no e = cc e

        lost : {x : Participant} → Some x ≡ None → ⊥
        lost e = cc e

    begun_beside : HoldsBeside new new_node
    unfolding machine_on
    begun_beside = beside_one book new node new_node refl h machine_on causes tid (λ t is. is) (λ t far. put_apart tid t part (record node.manager { begun = node.manager.begun + 1 }) far) (λ t far is. is)
        (λ t far. let s = others_begun own_node inc own_node.0 tid t line.label line.client book far in record { none = s.none; some = s.some }) (record { ticks = h.clock.ticks; room = h.clock.room }) own

  pub goes_begin : Goes stamp before run work (begin_as line tid work)
  goes_begin = goes_then stamp before run work begun_work (begin_as line tid work)
      (goes_entry stamp before run work begun_work act refl refl refl refl (λ fine inv causes h. begun_beside fine inv causes h))
      (goes_answer stamp before run line.client answers.Done begun_work)
