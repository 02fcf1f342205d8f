-- What a borrower commands leaves standing what stood of a transaction.
use Rattle.qs_world_refine.proofs.Words.{◌≡◌, ℕ, ◌==◌, ◌&&◌, not, Bool, true, false, List, [], ◌∷◌, ◌++◌, length, Option, Some, None, is_some, refl, sym, subst, ap, ◌∙◌, arith, if◌then◌else◌, suc, is_at, filter, lookup, remove_entry, eqb-true, nat_tests, same_tid, ClientNo, Tid, Command, is_taken, is_standing_loan, first_untaken, take_first, last_taken, give_back, Lent, Answer, is_undecided, Participant, is_void, take, yield, lent_command, with_loan, loan_command, enter, answer, Work, part_of}
use Rattle.qs_world_refine.proofs.Words.{with_kept, with_doings, client_cmp, OpenCommand, Scene, sight_during, ShowsWork, is_in_doubt, goes_in_run, may_doubt, Stands, GoesOn, Goes}
use Rattle.qs_book_journal.specs.declared.entry.Act.TheVariants as acts
use Rattle.qs_book_journal.specs.declared.script_line.Command.TheVariants as commands
use Rattle.qs_ops.specs.declared.answer.Answer.TheVariants as answers
use Rattle.qs_tm.specs.Manager as tm
use Rattle.qs_node_step.specs.Borrowing.{is_aborted}
use Rattle.qs_world_agree.specs.World.{World}
use Rattle.qs_world_refine.specs.CommandLaws.{BorrowerGoes}
use Rattle.qs_world_refine.proofs.During.{Leaves, leaves_on, found_same}
use Rattle.qs_world_refine.proofs.Facts.{lawful_on}
use Rattle.qs_world_refine.proofs.Frames.{out_leaves}
use Rattle.qs_world_refine.proofs.HomeAborts.{none_is}
use Rattle.qs_world_refine.proofs.IssueStands.{request_stands}
use Rattle.qs_world_refine.proofs.Keeping.{answer_leaves}
use Rattle.qs_world_refine.proofs.KindsKept.{KeepsKinds}
use Rattle.qs_world_refine.proofs.Lending.{taken_stands, give_back_goes}
use Rattle.qs_world_refine.proofs.SettleStands.{stands_itself, stands_left, at_same, whole_known}
use Rattle.qs_world_refine.proofs.SoundCommands.{loan_open}
use Rattle.qs_world_refine.proofs.SoundHolds.{is_open, is_held, told_part}
use Rattle.qs_world_refine.proofs.SoundKnown.{same_is}
use Rattle.qs_world_refine.proofs.SoundLoans.{take_sound, yield_sound}
use Rattle.qs_world_refine.proofs.SoundParts.{and_both}
use Rattle.qs_world_refine.proofs.SoundRules.{answer_sound}
use Rattle.qs_base_lemmas.proofs.Tests.{not_implied}

-- ---- a client is answered

pub answer_kinds : (client : ClientNo) (said : Answer) (work : Work) → KeepsKinds work (answer client said work)
answer_kinds client said work = by (lookup (is_at (client_cmp client)) work.node.commands)
  where
    by : (o : Option OpenCommand) → KeepsKinds work (elim o [
      | None ↦ work
      | Some command ↦ record work {
        node = record work.node { commands = remove_entry (is_at (client_cmp client)) work.node.commands };
        out = record work.out {
          answers = work.out.answers ++ record { client = client; answer = record { line = command.line.line; answer = said } } ∷ [];
          entries = work.out.entries ++ acts.Answer client command.line.line said ∷ [];
        };
      }
    ])
    by None has = has
    by (Some command) has = has

pub answer_stands : (t : Tid) (scene : Scene) (n : ℕ) (client : ClientNo) (said : Answer) (work : Work) (w : World) → Stands t scene n work w → GoesOn t scene n (answer client said work) w
answer_stands t scene n client said work w is = record {
  next = w;
  leads = record { events = []; run = refl };
  stands = stands_left t scene n work (answer client said work) w (answer_leaves t client said work) (answer_sound client said work is.sound) (answer_kinds client said work is.kinds) is;
}

-- ---- a loan is taken

take_leaves : (t : Tid) (client : ClientNo) (tid : Tid) (loan : Lent) (work : Work) → Leaves t work (take client tid loan work)
take_leaves t client tid loan work =
    leaves_on t work taken (take client tid loan work)
    (out_leaves t work taken (record { around = record { setting = refl; waits = λ s. refl; loans = taken_stands client tid t work.node.setting.inc work.node.kept.now.loans; past = refl }; part = refl }) refl refl)
    (answer_leaves t client (if is_void tid loan work.node then answers.Ended else answers.Done) taken)
  where
    taken : Work
    taken = with_kept (λ kept. record kept { loans = take_first client tid kept.loans }) work

take_stands : (t : Tid) (scene : Scene) (n : ℕ) (client : ClientNo) (tid : Tid) (loan : Lent) (work : Work) (w : World) → Stands t scene n work w → GoesOn t scene n (take client tid loan work) w
take_stands t scene n client tid loan work w is = record {
  next = w;
  leads = record { events = []; run = refl };
  stands = stands_left t scene n work (take client tid loan work) w (take_leaves t client tid loan work) (take_sound client tid loan work is.sound)
      (answer_kinds client (if is_void tid loan work.node then answers.Ended else answers.Done) (with_kept (λ kept. record kept { loans = take_first client tid kept.loans }) work) is.kinds) is;
}

-- ---- a loan is given back

module _ (t : Tid) (client : ClientNo) (tid : Tid) (inc : ℕ) (apart : same_tid t tid ≡ false) where
  other_loan : (loan : Lent) → is_taken client tid loan ≡ true → (is_standing_loan t inc loan ≡ false) × (is_standing_loan t inc (record loan { yielded = true }) ≡ false)
  other_loan loan its = (off (same_tid t loan.tid) away (not loan.yielded && (loan.inc == inc)), off (same_tid t loan.tid) away (not true && (loan.inc == inc)))
    where
      away : same_tid t loan.tid ≡ false
      away = differs (grind (arith, nat_tests, its))
        where
          differs : same_tid loan.tid tid ≡ true → same_tid t loan.tid ≡ false
          differs same = grind (arith, nat_tests, same, apart)

      off : (a : Bool) → a ≡ false → (b : Bool) → (a && b) ≡ false
      off a is b = rw is refl

  given_stands : (loans : List Lent) → length (filter (is_standing_loan t inc) (give_back client tid loans)) ≡ length (filter (is_standing_loan t inc) loans)
  given_stands [] = refl
  given_stands (loan ∷ loans) = by (is_taken client tid loan) refl (is_some (last_taken client tid loans)) (given_stands loans)
    where
      kept_first : length (filter (is_standing_loan t inc) (give_back client tid loans)) ≡ length (filter (is_standing_loan t inc) loans)
          → length (filter (is_standing_loan t inc) (loan ∷ give_back client tid loans)) ≡ length (filter (is_standing_loan t inc) (loan ∷ loans))
      kept_first more = picked (is_standing_loan t inc loan)
        where
          picked : (c : Bool) → length (if c then loan ∷ filter (is_standing_loan t inc) (give_back client tid loans) else filter (is_standing_loan t inc) (give_back client tid loans)) ≡ length (if c then loan ∷ filter (is_standing_loan t inc) loans else filter (is_standing_loan t inc) loans)
          picked true = ap suc more
          picked false = more

      by : (a : Bool) → is_taken client tid loan ≡ a → (b : Bool) → length (filter (is_standing_loan t inc) (give_back client tid loans)) ≡ length (filter (is_standing_loan t inc) loans)
          → length (filter (is_standing_loan t inc) (if a && not b then record loan { yielded = true } ∷ loans else loan ∷ give_back client tid loans)) ≡ length (filter (is_standing_loan t inc) (loan ∷ loans))
      by true its false more = let off = other_loan loan its in rw (off.0, off.1) refl
      by true its true more = kept_first more
      by false its b more = kept_first more

module _ (t : Tid) (scene : Scene) (n : ℕ) (client : ClientNo) (tid : Tid) (work : Work) (w : World) (is : Stands t scene n work w) where
  abbrev given : Work
  given = with_kept (λ kept. record kept { loans = give_back client tid kept.loans }) work

  abbrev entered : Work
  entered = with_doings tid (λ doings. record doings { yielded = true }) (enter (acts.Yield tid client) given)

  kinds : KeepsKinds work (yield client tid work)
  kinds has = answer_kinds client answers.Done entered has

  yield_leaves : same_tid t tid ≡ false → Leaves t work (yield client tid work)
  yield_leaves apart =
      leaves_on t work given (yield client tid work) (out_leaves t work given (record { around = record { setting = refl; waits = λ s. refl; loans = given_stands t client tid work.node.setting.inc apart work.node.kept.now.loans; past = refl }; part = refl }) refl refl)
      (leaves_on t given entered (yield client tid work) (out_leaves t given entered (record { around = record { setting = refl; waits = λ s. refl; loans = refl; past = refl }; part = refl }) refl refl) (answer_leaves t client answers.Done entered))

  yields : (part : Participant) (loan : Lent) → t ≡ tid → part_of tid work ≡ Some part → part.outcome ≡ None → last_taken client tid work.node.kept.now.loans ≡ Some loan → loan.yielded ≡ false → loan.inc ≡ work.node.setting.inc
      → GoesOn t scene n (yield client tid work) w
  yields part loan same known undecided found given_not now = record {
    next = turn.next;
    leads = turn.leads;
    stands = record {
      at = at_same t scene n work (yield client tid work) same_setting is.at;
      home_in = is.home_in;
      sound = yield_sound client tid work is.sound;
      kinds = kinds is.kinds;
      lawful = lawful_on w turn.next is.lawful turn.leads;
      shown = turn.shown;
      clear = λ none s. same_doubt s ∙ is.clear (ap (may_doubt (t.home.0 == n)) (sym (same_part t)) ∙ none) s;
      superior = λ part m known has. is.superior part m (sym (same_part t) ∙ known) has;
    };
  }
    where
      turn : Goes t scene n (yield client tid work) w
      turn = subst (λ (k : Tid). ShowsWork k scene n work w → Goes k scene n (yield client tid work) w) (sym same)
          (λ shown. give_back_goes tid scene n client loan work part w shown is.at (whole_known tid scene n work w (subst (λ (k : Tid). Stands k scene n work w) same is) part known) undecided found given_not now) is.shown

      open_commands : Option OpenCommand
      open_commands = lookup (is_at (client_cmp client)) work.node.commands

      same_setting : (yield client tid work).node.setting ≡ work.node.setting
      same_setting = (answer_leaves t client answers.Done entered).node.around.setting

      same_part : (k : Tid) → part_of k (yield client tid work) ≡ part_of k work
      same_part k = (answer_leaves k client answers.Done entered).node.part

      same_doubt : (s : ℕ) → is_in_doubt t s ((sight_during t scene n (yield client tid work)).found n) ≡ is_in_doubt t s ((sight_during t scene n work).found n)
      same_doubt s = (found_same t scene n entered (yield client tid work) w (answer_leaves t client answers.Done entered).quiet n).prepared s

-- ---- every command of a borrower

module _ (t : Tid) (scene : Scene) (n : ℕ) (client : ClientNo) (tid : Tid) where
  module _ (loan : Lent) (work : Work) (w : World) (is : Stands t scene n work w) (found : last_taken client tid work.node.kept.now.loans ≡ Some loan) (held : loan.yielded ≡ false) (valid : is_void tid loan work.node ≡ false) where
    runs : tm.told_of tid false is_open work.node.manager ≡ true
    runs = loan_open client tid loan work found held valid is.sound

    now_here : loan.inc ≡ work.node.setting.inc
    now_here = eqb-true loan.inc work.node.setting.inc (not_implied (loan.inc == work.node.setting.inc) (is_aborted tid work.node) valid)

    yield_any : GoesOn t scene n (yield client tid work) w
    yield_any = by (same_tid t tid) refl (part_of tid work) refl
      where
        by : (b : Bool) → same_tid t tid ≡ b → (o : Option Participant) → part_of tid work ≡ o → GoesOn t scene n (yield client tid work) w
        by false apart o at = record {
          next = w;
          leads = record { events = []; run = refl };
          stands = stands_left t scene n work (yield client tid work) w (yield_leaves t scene n client tid work w is apart) (yield_sound client tid work is.sound) (kinds t scene n client tid work w is is.kinds) is;
        }
        by true same None none =
            let never : tm.told_of tid false is_open work.node.manager ≡ false = ap (λ (o : Option Participant). elim o [ None ↦ false | Some p ↦ is_open p ]) none in
            absurd (cc (never, runs))
        by true same (Some part) known = yields t scene n client tid work w is part loan (same_is t tid same) known
            (none_is part (and_both (is_undecided part) (is_held part) (told_part is_open tid work.node.manager part known runs)).0) found held now_here

    lent_stands : (command : Command) → goes_in_run work.node.setting.nodes command ≡ true → GoesOn t scene n (lent_command client tid command work) w
    lent_stands commands.Begin in_run = stands_itself t scene n work w is
    lent_stands commands.Commit in_run = stands_itself t scene n work w is
    lent_stands commands.Abort in_run = stands_itself t scene n work w is
    lent_stands commands.Take in_run = stands_itself t scene n work w is
    lent_stands commands.Yield in_run = yield_any
    lent_stands (commands.Request member op) in_run = request_stands t tid scene n client member op work w in_run runs is

  loan_stands : (command : Command) (work : Work) (w : World) → goes_in_run work.node.setting.nodes command ≡ true → Stands t scene n work w → GoesOn t scene n (loan_command client tid command work) w
  loan_stands command work w in_run is = by (last_taken client tid work.node.kept.now.loans) refl
    where
      void_by : (loan : Lent) → last_taken client tid work.node.kept.now.loans ≡ Some loan → loan.yielded ≡ false → (b : Bool) → is_void tid loan work.node ≡ b → GoesOn t scene n (if b then answer client answers.Ended work else lent_command client tid command work) w
      void_by loan found held true so = answer_stands t scene n client answers.Ended work w is
      void_by loan found held false so = lent_stands loan work w is found held so command in_run

      held_by : (loan : Lent) → last_taken client tid work.node.kept.now.loans ≡ Some loan → (b : Bool) → loan.yielded ≡ b
          → GoesOn t scene n (if b then answer client answers.NotYours work else if is_void tid loan work.node then answer client answers.Ended work else lent_command client tid command work) w
      held_by loan found true so = answer_stands t scene n client answers.NotYours work w is
      held_by loan found false so = void_by loan found so (is_void tid loan work.node) refl

      by : (o : Option Lent) → last_taken client tid work.node.kept.now.loans ≡ o → GoesOn t scene n (elim o [ None ↦ work | Some loan ↦ with_loan client tid command loan work ]) w
      by None none = stands_itself t scene n work w is
      by (Some loan) found = held_by loan found loan.yielded refl

pub borrower_goes : BorrowerGoes
borrower_goes t tid scene n client commands.Take work w in_run is = by (first_untaken client tid work.node.kept.now.loans)
  where
    by : (o : Option Lent) → GoesOn t scene n (elim o [ None ↦ work | Some loan ↦ take client tid loan work ]) w
    by None = stands_itself t scene n work w is
    by (Some loan) = take_stands t scene n client tid loan work w is
borrower_goes t tid scene n client commands.Begin work w in_run is = loan_stands t scene n client tid commands.Begin work w in_run is
borrower_goes t tid scene n client commands.Commit work w in_run is = loan_stands t scene n client tid commands.Commit work w in_run is
borrower_goes t tid scene n client commands.Abort work w in_run is = loan_stands t scene n client tid commands.Abort work w in_run is
borrower_goes t tid scene n client commands.Yield work w in_run is = loan_stands t scene n client tid commands.Yield work w in_run is
borrower_goes t tid scene n client (commands.Request member op) work w in_run is = loan_stands t scene n client tid (commands.Request member op) work w in_run is
