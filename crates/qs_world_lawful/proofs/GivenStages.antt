-- Each transaction is settled with what it is given, at each stage of the fold: by what stands there, and by what the protocol gives there.
use Rattle.qs_world_lawful.proofs.Words.{◌≡◌, ℕ, true, false, List, [], ◌∷◌, Some, None, subst, fold, not, ◌&&◌, Tid, BookValue, find_transaction, TransactionValue, Cause, forget_rule, is_quiet, may_answer, pass_rule, ready_rule, refuse_rule, settle_tid, try, Work, doings_of, is_forgotten, is_undecided, Participant, AgreementGives, IsTrueCause, HasCountRoom, HoldsWork, book_at, AtEach, HasCause, MayCommit, MayDecide, MaySettle, Every, KeepsStanding, Stands}
use Rattle.qs_node_step.specs.State.{NodeValue}
use Rattle.qs_tm.specs.Manager as tm
use Rattle.qs_world_lawful.proofs.GivenSettling.{has_cause, may_commit, may_decide, may_forget, may_pass}
use Rattle.qs_world_lawful.proofs.LearningAll.{stands}
use Rattle.qs_world_lawful.proofs.PassingAll.{by_pass_rule}
use Rattle.qs_world_lawful.proofs.ReadAlone.{by_forget_rule}
use Rattle.qs_world_lawful.proofs.Settled.{by_ready, by_refuse}
use Rattle.qs_world_lawful.proofs.Stages.{by_undecided}
use Rattle.qs_world_lawful.proofs.Truths.{left_true, not_true, right_true}

-- a fold is given at each stage what each item is given by what stands there
pub at_each : {A : Type 0} (I : Work → Type 0) (Q : A → Type 0) (given P : Work → A → Type 0) (f : Work → A → Work)
    → ((work : Work) (x : A) → I work → Q x → given work x → P work x) → ((work : Work) (x : A) → I work → Q x → given work x → I (f work x))
    → (xs : List A) (work : Work) → I work → Every Q xs → AtEach given f work xs → AtEach P f work xs
at_each I Q given P f each keeps [] work i q g = tt
at_each I Q given P f each keeps (x ∷ xs) work i q g = (each work x i q.0 g.0, at_each I Q given P f each keeps xs (f work x) (keeps work x i q.0 g.0) q.1 g.1)

pub reached : {A : Type 0} (I : Work → Type 0) (Q : A → Type 0) (given : Work → A → Type 0) (f : Work → A → Work) → ((work : Work) (x : A) → I work → Q x → given work x → I (f work x))
    → (xs : List A) (work : Work) → I work → Every Q xs → AtEach given f work xs → I (fold f work xs)
reached I Q given f keeps [] work i q g = i
reached I Q given f keeps (x ∷ xs) work i q g = reached I Q given f keeps xs (f work x) (keeps work x i q.0 g.0) q.1 g.1

module _ (stamp : ℕ) (before : BookValue) (size : ℕ) (nodes : ℕ → NodeValue) (n : ℕ) (keeps : KeepsStanding stamp before size nodes n) where
  Here : Work → Type 0
  Here work = Stands stamp before size nodes n work

  module _ (work : Work) (tid : Tid) (s : Stands stamp before size nodes n work) (agreed : AgreementGives stamp before size nodes n work tid) (room : HasCountRoom work tid) where
    abbrev pub passed : Work
    passed = try tid pass_rule work

    abbrev pub answered : Work
    answered = try tid ready_rule passed

    abbrev pub refused : Work
    refused = try tid refuse_rule answered

    pub s_passed : Stands stamp before size nodes n passed
    s_passed = let held : HoldsWork stamp before passed = by_undecided stamp before work s.held tid (pass_rule tid) (λ part known unknown. by_pass_rule stamp before tid work s.held part known (λ due. may_pass stamp before size nodes n work s.by tid part known (agreed.passes part known due))) in
        record { held = held; by = keeps.passes work tid (record { may = λ part known due. may_pass stamp before size nodes n work s.by tid part known (agreed.passes part known due); room = room }) s held }

    commits_so : (part : Participant) → tm.part_of tid passed.node.manager ≡ Some part → part.outcome ≡ None → part.engage.home ≡ true → may_answer tid part passed ≡ true → is_quiet (doings_of tid passed) ≡ true → MayCommit stamp before passed tid
    commits_so part known unknown home ready quiet = may_commit stamp before size nodes n passed s_passed tid part known home unknown (agreed.commits part known unknown home ready quiet) (agreed.alone.told part known home)

    pub s_answered : Stands stamp before size nodes n answered
    s_answered = let held : HoldsWork stamp before answered = by_undecided stamp before passed s_passed.held tid (ready_rule tid) (λ part known unknown. by_ready stamp before tid passed s_passed.held part known unknown (commits_so part known unknown)) in
        record { held = held; by = keeps.readies passed tid s_passed held }

    aborts_so : (part : Participant) (cause : Cause) (more : List Cause) → tm.part_of tid answered.node.manager ≡ Some part → part.outcome ≡ None → part.engage.home ≡ true → part.causes ≡ cause ∷ more → MayDecide stamp before answered tid × HasCause stamp before answered tid cause
    aborts_so part cause more known unknown home is = (may_decide stamp before size nodes n answered s_answered.by tid part known home unknown, has_cause stamp before size nodes n answered s_answered.by tid part known cause first.0)
      where
        tx : (tx : TransactionValue) × (find_transaction (book_at stamp before answered) tid ≡ Some tx)
        tx = stands stamp (book_at stamp before answered) answered.node tid part s_answered.held.holds known

        first : Every (IsTrueCause (book_at stamp before answered) tid) (cause ∷ more)
        first = subst (λ (cs : List Cause). Every (IsTrueCause (book_at stamp before answered) tid) cs) is
            (((s_answered.by.beside.at tid).parts tx.0 part tx.1 known).causes unknown)

    pub s_refused : Stands stamp before size nodes n refused
    s_refused = let held : HoldsWork stamp before refused = by_undecided stamp before answered s_answered.held tid (refuse_rule tid) (λ part known unknown. by_refuse stamp before tid answered s_answered.held part known unknown (λ cause more. aborts_so part cause more known unknown)) in
        record { held = held; by = keeps.refuses answered tid s_answered held }

    pub may_settle : MaySettle stamp before work tid
    may_settle = record {
      passes = λ part known due. may_pass stamp before size nodes n work s.by tid part known (agreed.passes part known due);
      commits = commits_so;
      aborts = aborts_so;
      forgets = λ part known forgotten. may_forget stamp before size nodes n refused s_refused tid part known (away part forgotten) forgotten (agreed.alone.idle part known forgotten);
    }
      where
        away : (part : Participant) → is_forgotten part ≡ true → part.engage.home ≡ false
        away part is = not_true part.engage.home (right_true (is_undecided part) (not part.engage.home) (left_true (is_undecided part && not part.engage.home) _ is))

    pub s_settled : Stands stamp before size nodes n (settle_tid work tid)
    s_settled = let held : HoldsWork stamp before (settle_tid work tid) = by_undecided stamp before refused s_refused.held tid (forget_rule tid) (λ part known unknown. by_forget_rule stamp before tid refused s_refused.held part known unknown (may_settle.forgets part known)) in
        record { held = held; by = keeps.forgets refused tid s_refused held }
