-- What begins in a step is not asked for there, and nothing of it is lent: so none of its servers votes, and no borrower has a request of it issued.
use Rattle.qs_world_runs.proofs.Words.{◌≡◌, ℕ, ◌==◌, ◌&&◌, not, Bool, true, false, List, [], ◌∷◌, length, Option, Some, None, is_some, suc, refl, sym, ap, subst, ◌∙◌, arith, if◌then◌else◌, is_at, filter, lookup, nat_tests, same_tid, ClientNo, Tid, Command, first_untaken, give_back, is_standing_loan, is_taken, last_taken, take_first, KeptLabel, Decided, Lent, Answer, Cause, client_server, kept_outcome, borrower_command, is_aborted, is_void, lent_command, loan_command, take, with_loan, yield}
use Rattle.qs_world_runs.proofs.Words.{answer, enter, decided_answer, request_as, label_at, forget_rule, is_pass_due, may_answer, pass_rule, ready_rule, refuse_rule, settle_tid, try, Work, client_cmp, with_doings, with_kept, borrower_waits, is_owner, owner_waits, wait_command, wait_on, waits_at, Issued, OpenCommand, is_undecided, Participant, settle_leaves, same_is, next_not_zero, not_implied}
use Rattle.qs_book_journal.specs.declared.entry.Act.TheVariants as acts
use Rattle.qs_book_journal.specs.declared.script_line.Command.TheVariants as commands
use Rattle.qs_ops.specs.declared.answer.Answer.TheVariants as answers
use Rattle.qs_node_step.specs.Commands.{with_issued}
use Rattle.qs_node_step.specs.Deciding.{decide}
use Rattle.qs_node_step.specs.Requests.{next_number}
use Rattle.qs_node_step.specs.State.{part_of}
use Rattle.qs_world_refine.specs.NodeFaces.{loans_at}
use Rattle.qs_world_refine.proofs.During.{Leaves}
use Rattle.qs_world_refine.proofs.Keeping.{answer_leaves}
use Rattle.qs_world_refine.proofs.Lending.{taken_stands}
use Rattle.qs_world_refine.proofs.SettleFrames.{issue_as_leaves}

-- ---- nothing is due, whatever the rules try

-- nobody asked for it at its home, and nothing speaks against it
pub record IsYet (part : Participant) : Type 0 where
  pub unasked : part.asked ≡ false
  pub home : part.engage.home ≡ true
  pub causes : part.causes ≡ []

-- a loan of another transaction that is given back
module _ (t : Tid) (client : ClientNo) (tid : Tid) (inc : ℕ) (apart : same_tid t tid ≡ false) where
  other_loan : (loan : Lent) → is_taken client tid loan ≡ true → (is_standing_loan t inc loan ≡ false) × (is_standing_loan t inc (record loan { yielded = true }) ≡ false)
  other_loan loan its = (off (same_tid t loan.tid) away (not loan.yielded && (loan.inc == inc)), off (same_tid t loan.tid) away (not true && (loan.inc == inc)))
    where
      away : same_tid t loan.tid ≡ false
      away = differs (grind (arith, nat_tests, its))
        where
          differs : same_tid loan.tid tid ≡ true → same_tid t loan.tid ≡ false
          differs same = grind (arith, nat_tests, same, apart)

      off : (a : Bool) → a ≡ false → (b : Bool) → (a && b) ≡ false
      off a is b = rw is refl

  given_stands : (loans : List Lent) → length (filter (is_standing_loan t inc) (give_back client tid loans)) ≡ length (filter (is_standing_loan t inc) loans)
  given_stands [] = refl
  given_stands (loan ∷ loans) = by (is_taken client tid loan) refl (is_some (last_taken client tid loans)) (given_stands loans)
    where
      kept_first : length (filter (is_standing_loan t inc) (give_back client tid loans)) ≡ length (filter (is_standing_loan t inc) loans)
          → length (filter (is_standing_loan t inc) (loan ∷ give_back client tid loans)) ≡ length (filter (is_standing_loan t inc) (loan ∷ loans))
      kept_first more = picked (is_standing_loan t inc loan)
        where
          picked : (c : Bool) → length (if c then loan ∷ filter (is_standing_loan t inc) (give_back client tid loans) else filter (is_standing_loan t inc) (give_back client tid loans)) ≡ length (if c then loan ∷ filter (is_standing_loan t inc) loans else filter (is_standing_loan t inc) loans)
          picked true = ap suc more
          picked false = more

      by : (a : Bool) → is_taken client tid loan ≡ a → (b : Bool) → length (filter (is_standing_loan t inc) (give_back client tid loans)) ≡ length (filter (is_standing_loan t inc) loans)
          → length (filter (is_standing_loan t inc) (if a && not b then record loan { yielded = true } ∷ loans else loan ∷ give_back client tid loans)) ≡ length (filter (is_standing_loan t inc) (loan ∷ loans))
      by true its false more = let off = other_loan loan its in rw (off.0, off.1) refl
      by true its true more = kept_first more
      by false its b more = kept_first more

module _ (t : Tid) where
  pub record IsBare (work : Work) : Type 0 where
    pub parts : (part : Participant) → part_of t work ≡ Some part → IsYet part
    pub lent : loans_at work.node t ≡ 0

  same_if : (b : Bool) (x y : Work) → b ≡ false → (if b then x else y) ≡ y
  same_if b x y off = rw off refl

  pub pass_off : (part : Participant) (work : Work) → IsYet part → is_pass_due t part work ≡ false
  pass_off part work yet = rw yet.unasked refl

  passes : (part : Participant) (work : Work) → IsYet part → pass_rule t part work ≡ work
  passes part work yet = same_if (is_pass_due t part work) _ work (pass_off part work yet)

  readies : (part : Participant) (work : Work) → IsYet part → ready_rule t part work ≡ work
  readies part work yet = same_if (may_answer t part work) _ work (rw yet.unasked refl)

  refuses : (part : Participant) (work : Work) → IsYet part → refuse_rule t part work ≡ work
  refuses part work yet = picked part.engage.home part.causes yet.home yet.causes
    where
      picked : (b : Bool) (causes : List Cause) → b ≡ true → causes ≡ [] → (if b then elim causes [ [] ↦ work | cause ∷ more ↦ decide t Rattle.qs_base.specs.declared.identifiers.Outcome.TheVariants.Abort (Some cause) work ] else Rattle.qs_node_step.specs.Settling.refuse_elsewhere t part work) ≡ work
      picked b causes is none = rw (is, none) refl

  forgets : (part : Participant) (work : Work) → IsYet part → forget_rule t part work ≡ work
  forgets part work yet = same_if (Rattle.qs_tm.specs.Participant.is_forgotten part) _ work (off (is_undecided part) part.engage.home _ yet.home)
    where
      off : (a b c : Bool) → b ≡ true → ((a && not b) && c) ≡ false
      off true b c is = rw is refl
      off false b c is = refl

  tried : (rule : Tid → Participant → Work → Work) → ((part : Participant) (work : Work) → IsYet part → rule t part work ≡ work) → (work : Work) → IsBare work → try t rule work ≡ work
  tried rule same work bare = by (part_of t work) refl
    where
      picked : (part : Participant) (b : Bool) → IsYet part → (if b then rule t part work else work) ≡ work
      picked part true yet = same part work yet
      picked part false yet = refl

      by : (o : Option Participant) → part_of t work ≡ o → (elim o [ None ↦ work | Some part ↦ if is_undecided part then rule t part work else work ]) ≡ work
      by None none = refl
      by (Some part) known = picked part (is_undecided part) (bare.parts part known)

  own_turn : (work : Work) → IsBare work → settle_tid work t ≡ work
  own_turn work bare = ap (λ (w : Work). try t forget_rule (try t refuse_rule (try t ready_rule w))) (tried pass_rule passes work bare)
      ∙ (ap (λ (w : Work). try t forget_rule (try t refuse_rule w)) (tried ready_rule readies work bare)
      ∙ (ap (λ (w : Work). try t forget_rule w) (tried refuse_rule refuses work bare) ∙ tried forget_rule forgets work bare))

  bare_on : (work new : Work) → Leaves t work new → IsBare work → IsBare new
  bare_on work new leaves bare = record { parts = λ part known. bare.parts part (sym leaves.node.part ∙ known); lent = leaves.node.around.loans ∙ bare.lent }

  pub settled_bare : (work : Work) (tid : Tid) → IsBare work → IsBare (settle_tid work tid)
  settled_bare work tid bare = by (same_tid t tid) refl
    where
      by : (b : Bool) → same_tid t tid ≡ b → IsBare (settle_tid work tid)
      by true same = subst (λ (u : Tid). IsBare (settle_tid work u)) (same_is t tid same) (subst IsBare (sym (own_turn work bare)) bare)
      by false apart = bare_on work (settle_tid work tid) (settle_leaves t tid apart work) bare

  -- ---- commands that stayed open

  abbrev pub NoneLent : Work → Type 0
  NoneLent work = loans_at work.node t ≡ 0

  -- a loan that was taken, and not given back in this incarnation, stands
  taken_counts : (client : ClientNo) (inc : ℕ) (loan : Lent) (loans : List Lent) → last_taken client t loans ≡ Some loan → loan.yielded ≡ false → (loan.inc == inc) ≡ true → length (filter (is_standing_loan t inc) loans) ≡ 0 → ⊥
  taken_counts client inc loan [] found given now none = cc found
  taken_counts client inc loan (first ∷ loans) found given now none = by (last_taken client t loans) refl found (taken_counts client inc loan loans)
    where
      rest : (b : Bool) → length (if b then first ∷ filter (is_standing_loan t inc) loans else filter (is_standing_loan t inc) loans) ≡ 0 → (b ≡ false) × (length (filter (is_standing_loan t inc) loans) ≡ 0)
      rest true is = absurd (next_not_zero (length (filter (is_standing_loan t inc) loans)) (omega (arith, is)))
      rest false is = (refl, is)

      off : is_standing_loan t inc first ≡ false
      off = (rest (is_standing_loan t inc first) none).0

      stands : first ≡ loan → is_taken client t first ≡ true → is_standing_loan t inc first ≡ true
      stands same its = subst (λ (l : Lent). same_tid t first.tid ≡ true → (same_tid t first.tid && (not l.yielded && (l.inc == inc))) ≡ true) (sym same) (λ about. rw (about, given, now) refl) (grind (arith, nat_tests, its))

      picked : (b : Bool) → is_taken client t first ≡ b → ◌≡◌ {A = Option Lent} (if b then Some first else None) (Some loan) → ⊥
      picked true its is = let value : first ≡ loan = cc is in let on : is_standing_loan t inc first ≡ true = stands value its in cc (on, off)
      picked false its is = cc is

      by : (o : Option Lent) → last_taken client t loans ≡ o → last_taken client t (first ∷ loans) ≡ Some loan
          → (last_taken client t loans ≡ Some loan → loan.yielded ≡ false → (loan.inc == inc) ≡ true → length (filter (is_standing_loan t inc) loans) ≡ 0 → ⊥) → ⊥
      by None empty is more = picked (is_taken client t first) refl (rw empty at is)
      by (Some other) there is more = more (there ∙ rw there at is) given now (rest (is_standing_loan t inc first) none).1

  pub none_borrowed : (client : ClientNo) (loan : Lent) (work : Work) → NoneLent work → last_taken client t work.node.kept.now.loans ≡ Some loan → loan.yielded ≡ false → is_void t loan work.node ≡ false → ⊥
  none_borrowed client loan work none found given valid = taken_counts client work.node.setting.inc loan work.node.kept.now.loans found given (not_implied (loan.inc == work.node.setting.inc) (is_aborted t work.node) valid) none

  answered : (client : ClientNo) (said : Answer) (work : Work) → NoneLent work → NoneLent (answer client said work)
  answered client said work none = (answer_leaves t client said work).node.around.loans ∙ none

  module _ (client : ClientNo) (tid : Tid) (loan : Lent) (work : Work) (none : NoneLent work) (found : last_taken client tid work.node.kept.now.loans ≡ Some loan) (given : loan.yielded ≡ false) (valid : is_void tid loan work.node ≡ false) where
    apart : same_tid t tid ≡ false
    apart = by (same_tid t tid) refl
      where
        by : (b : Bool) → same_tid t tid ≡ b → b ≡ false
        by false far = refl
        by true same = absurd (subst (λ (u : Tid). last_taken client u work.node.kept.now.loans ≡ Some loan → is_void u loan work.node ≡ false → ⊥) (same_is t tid same) (λ f v. none_borrowed client loan work none f given v) found valid)

    lent_on : (command : Command) → NoneLent (lent_command client tid command work)
    lent_on commands.Begin = none
    lent_on commands.Commit = none
    lent_on commands.Abort = none
    lent_on commands.Take = none
    lent_on commands.Yield = answered client answers.Done (with_doings tid (λ doings. record doings { yielded = true }) (enter (acts.Yield tid client) (with_kept (λ kept. record kept { loans = give_back client tid kept.loans }) work)))
        (given_stands t client tid work.node.setting.inc apart work.node.kept.now.loans ∙ none)
    lent_on (commands.Request member op) = by (next_number tid member.node work)
      where
        by : (o : Option ℕ) → NoneLent (elim o [ None ↦ work | Some number ↦ request_as client tid member op number work ])
        by None = none
        by (Some number) = (issue_as_leaves t tid apart (record { issuer = client_server client; member = member; number = number; count = 0 }) op (with_issued client (record { tid = tid; member = member; number = number }) work)).node.around.loans ∙ none

  loan_on : (client : ClientNo) (tid : Tid) (command : Command) (work : Work) → NoneLent work → NoneLent (loan_command client tid command work)
  loan_on client tid command work none = by (last_taken client tid work.node.kept.now.loans) refl
    where
      void_by : (loan : Lent) → last_taken client tid work.node.kept.now.loans ≡ Some loan → loan.yielded ≡ false → (b : Bool) → is_void tid loan work.node ≡ b → NoneLent (if b then answer client answers.Ended work else lent_command client tid command work)
      void_by loan found given true void = answered client answers.Ended work none
      void_by loan found given false valid = lent_on client tid loan work none found given valid command

      given_by : (loan : Lent) → last_taken client tid work.node.kept.now.loans ≡ Some loan → (b : Bool) → loan.yielded ≡ b → NoneLent (if b then answer client answers.NotYours work else if is_void tid loan work.node then answer client answers.Ended work else lent_command client tid command work)
      given_by loan found true given = answered client answers.NotYours work none
      given_by loan found false given = void_by loan found given (is_void tid loan work.node) refl

      by : (o : Option Lent) → last_taken client tid work.node.kept.now.loans ≡ o → NoneLent (elim o [ None ↦ work | Some loan ↦ with_loan client tid command loan work ])
      by None empty = none
      by (Some loan) found = given_by loan found loan.yielded refl

  take_on : (client : ClientNo) (tid : Tid) (work : Work) → NoneLent work → NoneLent (Rattle.qs_node_step.specs.Borrowing.take_command client tid work)
  take_on client tid work none = by (first_untaken client tid work.node.kept.now.loans)
    where
      by : (o : Option Lent) → NoneLent (elim o [ None ↦ work | Some loan ↦ take client tid loan work ])
      by None = none
      by (Some loan) = answered client (if is_void tid loan work.node then answers.Ended else answers.Done) (with_kept (λ kept. record kept { loans = take_first client tid kept.loans }) work) (taken_stands client tid t work.node.setting.inc work.node.kept.now.loans ∙ none)

  borrower_on : (client : ClientNo) (tid : Tid) (command : Command) (work : Work) → NoneLent work → NoneLent (borrower_command client tid command work)
  borrower_on client tid commands.Begin work none = loan_on client tid commands.Begin work none
  borrower_on client tid commands.Commit work none = loan_on client tid commands.Commit work none
  borrower_on client tid commands.Abort work none = loan_on client tid commands.Abort work none
  borrower_on client tid commands.Take work none = take_on client tid work none
  borrower_on client tid commands.Yield work none = loan_on client tid commands.Yield work none
  borrower_on client tid (commands.Request member op) work none = loan_on client tid (commands.Request member op) work none

  pub waited_none : (work : Work) (client : ClientNo) → NoneLent work → NoneLent (wait_on work client)
  waited_none work client none = by (lookup (is_at (client_cmp client)) work.node.commands)
    where
      owned : (o : Option Tid) (command : Command) → NoneLent (owner_waits client o command work)
      owned None command = none
      owned (Some tid) command = decided (kept_outcome tid work.node)
        where
          decided : (o : Option Decided) → NoneLent (elim o [ None ↦ work | Some decided ↦ answer client (decided_answer decided command) work ])
          decided None = none
          decided (Some outcome) = answered client (decided_answer outcome command) work none

      borrowed : (issued : Option Issued) (o : Option Tid) (command : Command) → NoneLent (borrower_waits client issued o command work)
      borrowed (Some issued) o command = ended (is_aborted issued.tid work.node)
        where
          ended : (b : Bool) → NoneLent (if b then answer client answers.Ended work else work)
          ended true = answered client answers.Ended work none
          ended false = none
      borrowed None None command = none
      borrowed None (Some tid) command = borrower_on client tid command work none

      whose : (command : OpenCommand) (begun : KeptLabel) (b : Bool) → NoneLent (if b then owner_waits client begun.tid command.line.command work else borrower_waits client command.issued begun.tid command.line.command work)
      whose command begun true = owned begun.tid command.line.command
      whose command begun false = borrowed command.issued begun.tid command.line.command

      labelled : (command : OpenCommand) (o : Option KeptLabel) → NoneLent (elim o [ None ↦ work | Some begun ↦ waits_at client command begun work ])
      labelled command None = none
      labelled command (Some begun) = whose command begun (is_owner client begun.owner)

      by : (o : Option OpenCommand) → NoneLent (elim o [ None ↦ work | Some command ↦ wait_command client command work ])
      by None = none
      by (Some command) = labelled command (label_at command.line.label work.node)
