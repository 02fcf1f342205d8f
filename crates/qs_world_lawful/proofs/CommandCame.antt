-- A command comes, whatever it is; and one that stayed open is looked at again. The rules as wholes.
use Rattle.qs_world_lawful.proofs.Words.{◌≡◌, ℕ, Bool, true, false, Option, Some, None, refl, sym, ap, ◌∙◌, ClientNo, Member, Tid, Command, ScriptLine, KeptLabel, BookValue, Op, label_at, Work, answer_waiting, command_came, is_owner, wait_on, waiting_clients, with_command, HoldsWork, AtEach, MayRequest, MayWait, eqb-true}
use Rattle.qs_book_journal.specs.declared.script_line.Command.TheVariants as commands
use Rattle.qs_world_lawful.specs.GivenStep.{MayCommand}
use Rattle.qs_world_lawful.proofs.BorrowersCommands.{by_borrower_came}
use Rattle.qs_world_lawful.proofs.FilesHeld.{files_held}
use Rattle.qs_world_lawful.proofs.Obeying.{by_abort_came, by_any_request_came, by_begin_came, by_commit_came, by_refused_came, by_take_came, by_unmet_came, by_yield_came, came, waits}
use Rattle.qs_world_lawful.proofs.RequestingAny.{by_borrowers_any, by_owners_any}
use Rattle.qs_world_lawful.proofs.Stages.{by_fold}
use Rattle.qs_world_lawful.proofs.Waiting.{by_wait_on}

owner_is : (client : ClientNo) (o : Option ClientNo) → is_owner client o ≡ true → o ≡ Some client
owner_is client None e = absurd (cc e)
owner_is client (Some owner) e = ap (λ (n : ℕ). Some (record { 0 = n })) (eqb-true owner.0 client.0 e)

no_commit : (member : Member) (op : Op) → commands.Request member op ≡ commands.Commit → ⊥
no_commit member op e = cc e

module _ (stamp : ℕ) (before : BookValue) (work : Work) (h : HoldsWork stamp before work) (line : ScriptLine) (may : MayCommand stamp before work line) where
  -- the request is one of the command that is open now
  request_then : (tid : Tid) (member : Member) (op : Op) → MayRequest work tid member op → MayRequest (with_command line work) tid member op
  request_then tid member op k = record { fits = k.fits; in_run = k.in_run; slot = k.slot }

  owned_came : (begun : KeptLabel) → label_at line.label work.node ≡ Some begun → (tid : Tid) → begun.tid ≡ Some tid → begun.owner ≡ Some line.client → (c : Command) → line.command ≡ c → (line.command ≡ commands.Begin → ⊥) → HoldsWork stamp before (command_came line work)
  owned_came begun known tid of owned commands.Begin is other = absurd (other is)
  owned_came begun known tid of owned commands.Commit is other = by_commit_came stamp before work h line may.free may.behind begun known tid of owned (may.of_now begun tid known of owned) (may.undecided begun tid known of owned) is
  owned_came begun known tid of owned commands.Abort is other = by_abort_came stamp before work h line may.free may.behind begun known tid of owned (may.of_now begun tid known of owned) (may.undecided begun tid known of owned) is (files_held stamp before work h)
  owned_came begun known tid of owned commands.Take is other = by_take_came stamp before work h line may.free may.behind begun known tid of owned (may.of_now begun tid known of owned) (may.undecided begun tid known of owned) is
  owned_came begun known tid of owned commands.Yield is other = by_yield_came stamp before work h line may.free may.behind begun known tid of owned (may.of_now begun tid known of owned) (may.undecided begun tid known of owned) is
  owned_came begun known tid of owned (commands.Request member op) is other =
      by_any_request_came stamp before work h line may.free may.behind begun known tid of owned (may.of_now begun tid known of owned) (may.undecided begun tid known of owned) member op is
      (λ kept. let its = may.runs begun tid known of owned kept in
      let now = may.of_now begun tid known of owned kept in
      by_owners_any stamp before (with_command line work) (came stamp before work h line may.free may.behind) line.client (record { line = line; issued = None }) (waits stamp before work h line may.free may.behind) (λ e. no_commit member op (sym is ∙ e))
      tid member op (request_then tid member op (may.requests begun tid member op known of is)) its.0 its.1 begun known of owned now.0 now.1 its.2)

  lent_came : (begun : KeptLabel) → label_at line.label work.node ≡ Some begun → (tid : Tid) → begun.tid ≡ Some tid → is_owner line.client begun.owner ≡ false → (line.command ≡ commands.Begin → ⊥) → HoldsWork stamp before (command_came line work)
  lent_came begun known tid of other no_begin =
      by_borrower_came stamp before work h line may.free may.behind begun known tid of other may.small
      (λ member op last is taken stood valid. let lent = may.lent begun tid member op known of other is (record { loan = last; taken = taken; stands = stood; valid = valid }) in
      by_borrowers_any stamp before (with_command line work) (came stamp before work h line may.free may.behind) line.client (record { line = line; issued = None }) (waits stamp before work h line may.free may.behind) (λ e. no_commit member op (sym is ∙ e))
      tid member op (request_then tid member op (may.requests begun tid member op known of is)) lent.part lent.known may.small lent.open_still last taken stood valid)
      no_begin

  labelled_came : (line.command ≡ commands.Begin → ⊥) → (o : Option KeptLabel) → label_at line.label work.node ≡ o → HoldsWork stamp before (command_came line work)
  labelled_came no_begin None known = by_unmet_came stamp before work h line may.free may.behind no_begin known
  labelled_came no_begin (Some begun) known = by begun.tid refl
    where
      of : (tid : Tid) → begun.tid ≡ Some tid → (b : Bool) → is_owner line.client begun.owner ≡ b → HoldsWork stamp before (command_came line work)
      of tid is true own = owned_came begun known tid is (owner_is line.client begun.owner own) line.command refl no_begin
      of tid is false other = lent_came begun known tid is other no_begin

      by : (o : Option Tid) → begun.tid ≡ o → HoldsWork stamp before (command_came line work)
      by None is = by_refused_came stamp before work h line may.free may.behind no_begin begun known is
      by (Some tid) is = of tid is (is_owner line.client begun.owner) refl

  pub by_command_came : HoldsWork stamp before (command_came line work)
  by_command_came = by line.command refl
    where
      clash : {c : Command} → line.command ≡ c → (c ≡ commands.Begin → ⊥) → line.command ≡ commands.Begin → ⊥
      clash is other e = other (sym is ∙ e)

      by : (c : Command) → line.command ≡ c → HoldsWork stamp before (command_came line work)
      by commands.Begin is = by_begin_came stamp before work h line may.free may.behind is (may.fresh is)
      by commands.Commit is = labelled_came (clash is (λ e. cc e)) (label_at line.label work.node) refl
      by commands.Abort is = labelled_came (clash is (λ e. cc e)) (label_at line.label work.node) refl
      by commands.Take is = labelled_came (clash is (λ e. cc e)) (label_at line.label work.node) refl
      by commands.Yield is = labelled_came (clash is (λ e. cc e)) (label_at line.label work.node) refl
      by (commands.Request member op) is = labelled_came (clash is (λ e. cc e)) (label_at line.label work.node) refl

-- ---- commands that stayed open

pub by_waits : (stamp : ℕ) (before : BookValue) (work : Work) → HoldsWork stamp before work → (client : ClientNo) → MayWait stamp before work client → HoldsWork stamp before (wait_on work client)
by_waits stamp before work h client may = by_wait_on stamp before work h client may.small may.of_now
    (λ command begun tid member op last waiting labelled of unissued is taken stood valid. let its = may.requests command tid member op waiting is (record { loan = last; taken = taken; stands = stood; valid = valid }) in
    by_borrowers_any stamp before work h client command waiting (λ e. no_commit member op (sym is ∙ e)) tid member op its.0 its.1.part its.1.known may.small its.1.open_still last taken stood valid)

pub by_answer_waiting : (stamp : ℕ) (before : BookValue) (work : Work) → HoldsWork stamp before work → AtEach (MayWait stamp before) wait_on work (waiting_clients work) → HoldsWork stamp before (answer_waiting work)
by_answer_waiting stamp before work h given = by_fold stamp before (MayWait stamp before) wait_on (λ w client k may. by_waits stamp before w k client may) (waiting_clients work) work h given
