-- A borrower takes a loan, which no event tells of, and gives it back: Yield.
use Rattle.qs_world_refine.proofs.Words.{◌≡◌, ℕ, ◌+◌, ◌==◌, ◌&&◌, Bool, true, false, List, [], ◌∷◌, length, Option, Some, None, refl, subst, ap, ◌∙◌, arith, if◌then◌else◌, suc, filter, nat_tests, same_tid, ClientNo, Tid, is_taken, is_untaken, take_first, last_taken, give_back, is_standing_loan, Lent, Participant, take, yield, is_void, enter, Work, with_doings, with_kept, Face, face, loans_at, SightGoes, sight_faced, sight_during, Sight, ShowsSight, same_Some}
use Rattle.qs_book_journal.specs.declared.entry.Act.TheVariants as acts
use Rattle.qs_ops.specs.declared.answer.Answer.TheVariants as answers
use Rattle.qs_world_refine.specs.LoanLaws.{TakeGoes, GiveBackGoes}
use Rattle.qs_world_refine.proofs.Alike.{SameFace, found_itself}
use Rattle.qs_world_refine.proofs.Asking as asking
use Rattle.qs_world_refine.proofs.During.{leaves_on, leaves_shown, local_shown, face_here, runs}
use Rattle.qs_world_refine.proofs.Frames.{out_leaves}
use Rattle.qs_world_refine.proofs.Keeping.{answer_leaves, nothing_goes}
use Rattle.qs_world_refine.proofs.Reading.{part_known}

-- ---- a loan that is taken stands as before

pub taken_stands : (client : ClientNo) (tid t : Tid) (inc : ℕ) (loans : List Lent) → length (filter (is_standing_loan t inc) (take_first client tid loans)) ≡ length (filter (is_standing_loan t inc) loans)
taken_stands client tid t inc [] = refl
taken_stands client tid t inc (loan ∷ loans) = by (is_untaken client tid loan) (is_standing_loan t inc loan) refl (taken_stands client tid t inc loans)
  where
    by : (b c : Bool) → is_standing_loan t inc loan ≡ c → length (filter (is_standing_loan t inc) (take_first client tid loans)) ≡ length (filter (is_standing_loan t inc) loans)
        → length (filter (is_standing_loan t inc) (if b then record loan { taken = true } ∷ loans else loan ∷ take_first client tid loans)) ≡ length (filter (is_standing_loan t inc) (loan ∷ loans))
    by true true is more = rw is refl
    by true false is more = rw is refl
    by false true is more = rw is (ap suc more)
    by false false is more = rw is more

pub take_goes : TakeGoes
take_goes t tid scene n client loan work w shown = nothing_goes t scene n (take client tid loan work) w (leaves_shown t scene n work (take client tid loan work) w
    (leaves_on t work taken (take client tid loan work)
    (out_leaves t work taken (record { around = record { setting = refl; waits = λ s. refl; loans = taken_stands client tid t work.node.setting.inc work.node.kept.now.loans; past = refl }; part = refl }) refl refl)
    (answer_leaves t client (if is_void tid loan work.node then answers.Ended else answers.Done) taken)) shown)
  where
    taken : Work
    taken = with_kept (λ kept. record kept { loans = take_first client tid kept.loans }) work

-- ---- one that is given back stands no more

module _ (client : ClientNo) (tid : Tid) (inc : ℕ) (loan : Lent) where
  stood : is_taken client tid loan ≡ true → loan.yielded ≡ false → loan.inc ≡ inc → is_standing_loan tid inc loan ≡ true
  stood taken kept now = grind (arith, nat_tests, taken, kept, now)

  gone : (is_standing_loan tid inc (record loan { yielded = true })) ≡ false
  gone = off (same_tid tid loan.tid) (loan.inc == inc)
    where
      off : (a b : Bool) → (a && (false && b)) ≡ false
      off true b = refl
      off false b = refl

  one_less : (loans : List Lent) → last_taken client tid loans ≡ Some loan → loan.yielded ≡ false → loan.inc ≡ inc
      → length (filter (is_standing_loan tid inc) loans) ≡ length (filter (is_standing_loan tid inc) (give_back client tid loans)) + 1
  one_less [] last kept now = absurd (cc last)
  one_less (first ∷ loans) last kept now = by (last_taken client tid loans) refl (is_taken client tid first) refl last (λ same. one_less loans same kept now)
    where
      with_first : (c : Bool) → is_standing_loan tid inc first ≡ c → length (filter (is_standing_loan tid inc) loans) ≡ length (filter (is_standing_loan tid inc) (give_back client tid loans)) + 1
          → length (filter (is_standing_loan tid inc) (first ∷ loans)) ≡ length (filter (is_standing_loan tid inc) (first ∷ give_back client tid loans)) + 1
      with_first true is more = rw is (omega (arith, more))
      with_first false is more = rw is more

      here : (a : Lent) → a ≡ loan → is_taken client tid a ≡ true → length (filter (is_standing_loan tid inc) (a ∷ loans)) ≡ length (filter (is_standing_loan tid inc) (record a { yielded = true } ∷ loans)) + 1
      here a is taken = rw is (rw (stood (rw is at taken) kept now, gone) (omega arith))

      by : (o : Option Lent) → last_taken client tid loans ≡ o → (b : Bool) → is_taken client tid first ≡ b → last_taken client tid (first ∷ loans) ≡ Some loan
          → (last_taken client tid loans ≡ Some loan → length (filter (is_standing_loan tid inc) loans) ≡ length (filter (is_standing_loan tid inc) (give_back client tid loans)) + 1)
          → length (filter (is_standing_loan tid inc) (first ∷ loans)) ≡ length (filter (is_standing_loan tid inc) (give_back client tid (first ∷ loans))) + 1
      by (Some other) is b taken last more = rw is (kept_first b taken)
        where
          same : last_taken client tid loans ≡ Some loan
          same = is ∙ rw is at last

          kept_first : (b : Bool) → is_taken client tid first ≡ b → length (filter (is_standing_loan tid inc) (first ∷ loans)) ≡ length (filter (is_standing_loan tid inc) (if is_taken client tid first && false then record first { yielded = true } ∷ loans else first ∷ give_back client tid loans)) + 1
          kept_first true taken = rw taken (with_first (is_standing_loan tid inc first) refl (more same))
          kept_first false taken = rw taken (with_first (is_standing_loan tid inc first) refl (more same))
      by None is true taken last more = rw (is, taken) (here first (same_Some first loan (rw (is, taken) at last)) taken)
      by None is false taken last more = absurd (let none : None ≡ Some loan = rw (is, taken) at last in cc none)

pub give_back_goes : GiveBackGoes
give_back_goes tid scene n client loan work part w shown at knows undecided last kept now = record {
  next = turn.next;
  leads = turn.leads;
  shown = leaves_shown tid scene n given (yield client tid work) turn.next
      (leaves_on tid given entered (yield client tid work) (out_leaves tid given entered (record { around = record { setting = refl; waits = λ s. refl; loans = refl; past = refl }; part = refl }) refl refl) (answer_leaves tid client answers.Done entered))
      (local_shown tid scene n work given turn.next (record { sends = λ q. refl; logs = λ log. found_itself tid _ }) (record (face work.node tid part) { loans = left })
      (subst (λ (f : Face). ShowsSight tid (sight_faced x n (record f { loans = left })) turn.next) face_before turn.shown)
      (rw (part_known tid given.node part knows.known) face_given));
}
  where
    given : Work
    given = with_kept (λ kept. record kept { loans = give_back client tid kept.loans }) work

    entered : Work
    entered = with_doings tid (λ doings. record doings { yielded = true }) (enter (acts.Yield tid client) given)

    x : Sight
    x = sight_during tid scene n work

    left : ℕ
    left = loans_at given.node tid

    face_before : x.face n ≡ face work.node tid part
    face_before = face_here tid scene n work ∙ ap (λ (p : Participant). face work.node tid p) (part_known tid work.node part knows.known)

    turn : SightGoes tid (sight_faced x n (record (x.face n) { loans = left })) w
    turn = asking.yield tid x w n left shown (runs tid scene n work at) (rw face_before (rw undecided refl)) (rw face_before (one_less client tid work.node.setting.inc loan work.node.kept.now.loans last kept now))

    face_given : SameFace (record (face work.node tid part) { loans = left }) (face given.node tid part)
    face_given = record { is_home = refl; on = refl; superior = refl; last = λ m. refl; sent = λ m. refl; covered = λ m. refl; waits = λ s. refl; uncast = λ s. refl; loans = refl; asked = refl; blocked = refl; involved = refl; told = λ m. refl; outcome = refl; tell = λ m. refl }
