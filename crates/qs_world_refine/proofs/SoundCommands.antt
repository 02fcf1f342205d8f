-- A node stays sound where a client commands.
use Rattle.qs_world_refine.proofs.Words.{◌≡◌, ℕ, ◌==◌, ◌&&◌, ◌||◌, not, nat_lt, Bool, true, false, List, [], ◌∷◌, Option, Some, None, is_some, refl, sym, ap, subst, ◌∙◌, arith, if◌then◌else◌, list_any, nat_tests, same_tid, ClientNo, Member, Tid, Command, first_untaken, last_taken, is_taken, is_standing_loan, Decided, Lent, Op, client_server, is_abort, is_undecided, Participant, kept_outcome, is_void, take, lent_command, with_loan, loan_command, answer, ask, request_as, request_command, with_issued}
use Rattle.qs_world_refine.proofs.Words.{open_command, decided_answer, decide, next_number, is_lent, Work, part_of, is_sound, may_be_served, goes_in_run, StaysSound, or_left, or_right}
use Rattle.qs_base.specs.declared.identifiers.Outcome.TheVariants as outcomes
use Rattle.qs_book_journal.specs.declared.script_line.Command.TheVariants as commands
use Rattle.qs_ops.specs.declared.answer.Answer.TheVariants as answers
use Rattle.qs_ops.specs.declared.answer.Cause.TheVariants as causes
use Rattle.qs_tm.specs.Manager as tm
use Rattle.qs_node_step.specs.Borrowing.{is_aborted}
use Rattle.qs_world_refine.specs.SoundLaws.{BorrowerCommandSound, OwnerCommandSound}
use Rattle.qs_world_refine.proofs.SoundParts.{and_both, both_and}
use Rattle.qs_world_refine.proofs.SoundRules.{answer_sound, owner_asks_sound}
use Rattle.qs_world_refine.proofs.SoundDecide.{decide_abort_sound}
use Rattle.qs_world_refine.proofs.SoundHolds.{told_part, told_as, known_sound, is_held, held_as, is_open}
use Rattle.qs_world_refine.proofs.SoundIssue.{issue_as_holds}
use Rattle.qs_world_refine.proofs.SoundKnown.{lent_served}
use Rattle.qs_world_refine.proofs.SoundLoans.{take_sound, yield_sound}
use Rattle.qs_world_refine.proofs.SoundServe.{lent_busy}
use Rattle.qs_world_refine.proofs.SoundSettle.{undecided_known}
use Rattle.qs_world_refine.proofs.SoundViews.{seen}
use Rattle.qs_base_lemmas.proofs.Tests.{not_implied}

-- ---- a request is issued, of a transaction that is open here

request_sound : (client : ClientNo) (tid : Tid) (member : Member) (op : Op) (work : Work) → nat_lt member.node.0 work.node.setting.nodes ≡ true → tm.told_of tid false is_open work.node.manager ≡ true
    → StaysSound work (request_command client tid member op work)
request_sound client tid member op work in_run open_now = by (next_number tid member.node work)
  where
    by : (o : Option ℕ) → StaysSound work (elim o [ None ↦ work | Some number ↦ request_as client tid member op number work ])
    by None = λ sound. sound
    by (Some number) = λ sound. (issue_as_holds tid (record { issuer = client_server client; member = member; number = number; count = 0 }) op
        (with_issued client (record { tid = tid; member = member; number = number }) work) in_run (sound, open_now)).0

-- ---- a borrower: its loan stands where it was not given back, and is not void

last_stands : (client : ClientNo) (tid : Tid) (inc : ℕ) (loan : Lent) (loans : List Lent) → last_taken client tid loans ≡ Some loan → loan.yielded ≡ false → (loan.inc == inc) ≡ true → list_any (is_standing_loan tid inc) loans ≡ true
last_stands client tid inc loan [] found given now = absurd (cc (found))
last_stands client tid inc loan (first ∷ loans) found given now = by (last_taken client tid loans) refl found (last_stands client tid inc loan loans)
  where
    same : (a b c : Bool) → ((a && b) && c) ≡ true → b ≡ true
    same true true c is = refl
    same true false c is = absurd (cc (is))
    same false b c is = absurd (cc (is))

    turned : same_tid first.tid tid ≡ true → same_tid tid first.tid ≡ true
    turned is = grind (arith, nat_tests, is)

    stands : first ≡ loan → same_tid tid first.tid ≡ true → is_standing_loan tid inc first ≡ true
    stands it is = subst (λ (l : Lent). is_standing_loan tid inc l ≡ true) (sym it) (both_and (same_tid tid loan.tid) (not loan.yielded && (loan.inc == inc)) (subst (λ (l : Lent). same_tid tid l.tid ≡ true) it is) (rw (given, now) refl))

    picked : (b : Bool) → is_taken client tid first ≡ b → ◌≡◌ {A = Option Lent} (if b then Some first else None) (Some loan) → (is_standing_loan tid inc first || list_any (is_standing_loan tid inc) loans) ≡ true
    picked true is it = let value : first ≡ loan = cc (it) in
        or_left (is_standing_loan tid inc first) (list_any (is_standing_loan tid inc) loans) (stands value (turned (same (first.client.0 == client.0) (same_tid first.tid tid) first.taken is)))
    picked false is it = absurd (cc (it))

    by : (o : Option Lent) → last_taken client tid loans ≡ o → last_taken client tid (first ∷ loans) ≡ Some loan
        → (last_taken client tid loans ≡ Some loan → loan.yielded ≡ false → (loan.inc == inc) ≡ true → list_any (is_standing_loan tid inc) loans ≡ true) → (is_standing_loan tid inc first || list_any (is_standing_loan tid inc) loans) ≡ true
    by None none it more = picked (is_taken client tid first) refl (rw none at it)
    by (Some other) is it more = or_right (is_standing_loan tid inc first) (list_any (is_standing_loan tid inc) loans) (more (is ∙ rw is at it) given now)

module _ (client : ClientNo) (tid : Tid) (loan : Lent) (work : Work) (found : last_taken client tid work.node.kept.now.loans ≡ Some loan) (given : loan.yielded ≡ false) (valid : is_void tid loan work.node ≡ false) (sound : is_sound work.node ≡ true) where
  present : (loan.inc == work.node.setting.inc) ≡ true
  present = not_implied (loan.inc == work.node.setting.inc) (is_aborted tid work.node) valid

  not_aborted : is_aborted tid work.node ≡ false
  not_aborted = by (loan.inc == work.node.setting.inc) (is_aborted tid work.node) valid
    where
      by : (a b : Bool) → (not a || b) ≡ false → b ≡ false
      by true b is = is
      by false b is = absurd (cc (is))

  stands_now : is_lent tid work.node ≡ true
  stands_now = last_stands client tid work.node.setting.inc loan work.node.kept.now.loans found given present

  served_now : may_be_served work.node tid ≡ true
  served_now = lent_served work.node tid work.node.kept.now.loans (seen work.node sound).loans stands_now

  pub loan_open : tm.told_of tid false is_open work.node.manager ≡ true
  loan_open = by (part_of tid work) refl
    where
      undecided_now : (part : Participant) → part_of tid work ≡ Some part → is_undecided part ≡ true
      undecided_now part known = or_first (is_undecided part) (is_abort part.outcome)
          (sym (ap (λ (o : Option Participant). elim o [ None ↦ false | Some p ↦ is_undecided p || is_abort p.outcome ]) known) ∙ served_now)
          (sym (ap (λ (o : Option Participant). elim o [ None ↦ false | Some p ↦ is_abort p.outcome ]) known) ∙ not_aborted)
        where
          or_first : (a b : Bool) → (a || b) ≡ true → b ≡ false → a ≡ true
          or_first true b is so = refl
          or_first false b is so = absurd (cc (is, so))

      by : (o : Option Participant) → part_of tid work ≡ o → tm.told_of tid false is_open work.node.manager ≡ true
      by None none =
          let never : may_be_served work.node tid ≡ false = ap (λ (o : Option Participant). elim o [ None ↦ false | Some p ↦ is_undecided p || is_abort p.outcome ]) none in
          let is : may_be_served work.node tid ≡ true = served_now in
          absurd (cc (never, is))
      by (Some part) known = told_as is_open tid work.node.manager part known (both_and (is_undecided part) (is_held part) (undecided_now part known)
          (held_as part (lent_busy work.node tid part stands_now (known_sound tid work.node part known sound))))

  lent_command_sound : (command : Command) → goes_in_run work.node.setting.nodes command ≡ true → is_sound (lent_command client tid command work).node ≡ true
  lent_command_sound commands.Begin in_run = sound
  lent_command_sound commands.Commit in_run = sound
  lent_command_sound commands.Abort in_run = sound
  lent_command_sound commands.Take in_run = sound
  lent_command_sound commands.Yield in_run = yield_sound client tid work sound
  lent_command_sound (commands.Request member op) in_run = request_sound client tid member op work in_run loan_open sound

loan_command_sound : (client : ClientNo) (tid : Tid) (command : Command) (work : Work) → goes_in_run work.node.setting.nodes command ≡ true → StaysSound work (loan_command client tid command work)
loan_command_sound client tid command work in_run = by (last_taken client tid work.node.kept.now.loans) refl
  where
    void_by : (loan : Lent) → last_taken client tid work.node.kept.now.loans ≡ Some loan → loan.yielded ≡ false → (b : Bool) → is_void tid loan work.node ≡ b → StaysSound work (if b then answer client answers.Ended work else lent_command client tid command work)
    void_by loan found given true is = answer_sound client answers.Ended work
    void_by loan found given false is = λ sound. lent_command_sound client tid loan work found given is sound command in_run

    given_by : (loan : Lent) → last_taken client tid work.node.kept.now.loans ≡ Some loan → (b : Bool) → loan.yielded ≡ b
        → StaysSound work (if b then answer client answers.NotYours work else if is_void tid loan work.node then answer client answers.Ended work else lent_command client tid command work)
    given_by loan found true is = answer_sound client answers.NotYours work
    given_by loan found false is = void_by loan found is (is_void tid loan work.node) refl

    by : (o : Option Lent) → last_taken client tid work.node.kept.now.loans ≡ o → StaysSound work (elim o [ None ↦ work | Some loan ↦ with_loan client tid command loan work ])
    by None none = λ sound. sound
    by (Some loan) found = given_by loan found loan.yielded refl

pub borrower_command_sound : BorrowerCommandSound
borrower_command_sound client tid commands.Take work in_run = by (first_untaken client tid work.node.kept.now.loans)
  where
    by : (o : Option Lent) → StaysSound work (elim o [ None ↦ work | Some loan ↦ take client tid loan work ])
    by None = λ sound. sound
    by (Some loan) = take_sound client tid loan work
borrower_command_sound client tid commands.Begin work in_run = loan_command_sound client tid commands.Begin work in_run
borrower_command_sound client tid commands.Commit work in_run = loan_command_sound client tid commands.Commit work in_run
borrower_command_sound client tid commands.Abort work in_run = loan_command_sound client tid commands.Abort work in_run
borrower_command_sound client tid commands.Yield work in_run = loan_command_sound client tid commands.Yield work in_run
borrower_command_sound client tid (commands.Request member op) work in_run = loan_command_sound client tid (commands.Request member op) work in_run

-- ---- the owner: what is not decided runs at its home here

module _ (client : ClientNo) (tid : Tid) (work : Work) (owned : tm.told_of tid false (λ part. part.engage.home && is_undecided part) work.node.manager ≡ true) where
  pub home_is : (part : Participant) → part_of tid work ≡ Some part → part.engage.home ≡ true
  home_is part known = (and_both part.engage.home (is_undecided part) (told_part (λ p. p.engage.home && is_undecided p) tid work.node.manager part known owned)).0

  pub owner_open : tm.told_of tid false is_open work.node.manager ≡ true
  owner_open = by (part_of tid work) owned
    where
      both : (h u t : Bool) → (h && u) ≡ true → (u && not (not h && (u && not (if h then u else t)))) ≡ true
      both true true t is = refl
      both true false t is = absurd (cc (is))
      both false u t is = absurd (cc (is))

      by : (o : Option Participant) → ◌≡◌ {A = Bool} (elim o [ None ↦ false | Some p ↦ p.engage.home && is_undecided p ]) true → ◌≡◌ {A = Bool} (elim o [ None ↦ false | Some p ↦ is_open p ]) true
      by None is = is
      by (Some p) is = both p.engage.home (is_undecided p) (is_some p.engage.superior) is

  open_command_sound : (command : Command) → goes_in_run work.node.setting.nodes command ≡ true → StaysSound work (open_command client tid command work)
  open_command_sound commands.Begin in_run = λ sound. sound
  open_command_sound commands.Commit in_run = undecided_known tid (ask tid) work (λ part known open_now. owner_asks_sound tid part work)
  open_command_sound commands.Abort in_run = undecided_known tid (λ part. decide tid outcomes.Abort (Some causes.Asked)) work (λ part known open_now. decide_abort_sound tid part (Some causes.Asked) work known open_now (home_is part known))
  open_command_sound commands.Take in_run = λ sound. sound
  open_command_sound commands.Yield in_run = λ sound. sound
  open_command_sound (commands.Request member op) in_run = request_sound client tid member op work in_run owner_open

pub owner_command_sound : OwnerCommandSound
owner_command_sound client tid command work in_run owned = by (kept_outcome tid work.node) owned
  where
    by : (o : Option Decided) → (is_some o || tm.told_of tid false (λ part. part.engage.home && is_undecided part) work.node.manager) ≡ true
        → StaysSound work (elim o [ None ↦ open_command client tid command work | Some decided ↦ answer client (decided_answer decided command) work ])
    by None runs = open_command_sound client tid work runs command in_run
    by (Some decided) runs = answer_sound client (decided_answer decided command) work
