-- A node stays sound where a loan is made, taken, or given back.
use Rattle.qs_world_refine.proofs.Words.{◌≡◌, ◌==◌, ◌&&◌, ◌||◌, not, Bool, true, false, List, [], ◌∷◌, ◌++◌, Option, Some, None, is_some, refl, sym, ap, subst, ◌∙◌, arith, if◌then◌else◌, list_all, list_any, is_at, nat_tests, tid_cmp, same_tid, ClientNo, Tid, is_untaken, is_taken, take_first, last_taken, give_back, is_standing_loan, Kept, Lent, Participant, is_void, NodeValue, Work, is_sound, is_sound_part, is_sound_loan, may_be_served, where_so, or_left, or_right}
use Rattle.qs_node_kept.specs.Keeping.{with_now}
use Rattle.qs_ops.specs.declared.answer.Answer.TheVariants as answers
use Rattle.qs_tm.specs.Manager as tm
use Rattle.qs_world_refine.specs.SoundLaws.{TakeSound, YieldSound}
use Rattle.qs_world_refine.proofs.SoundParts.{and_both, both_and, all_found}
use Rattle.qs_world_refine.proofs.SoundBegin.{all_last}
use Rattle.qs_world_refine.proofs.SoundRules.{answer_sound}
use Rattle.qs_world_refine.proofs.SoundViews.{seen, sound_as, is_apart}
use Rattle.qs_world_refine.proofs.SoundFrames.{parts_moved, parts_beside}
use Rattle.qs_world_refine.proofs.SoundQueued.{any_last, either}

abbrev pub with_loans : List Lent → NodeValue → NodeValue
with_loans loans node = record node { kept = with_now (λ (kept : Kept). record kept { loans = loans }) node.kept }

-- ---- one more loan, of a transaction that is known, and at its home, decided, or engaged

pub lent_sound : (loan : Lent) (node : NodeValue) (part : Participant) → tm.part_of loan.tid node.manager ≡ Some part → is_apart part ≡ false → may_be_served node loan.tid ≡ true
    → is_sound node ≡ true → is_sound (with_loans (node.kept.now.loans ++ loan ∷ []) node) ≡ true
lent_sound loan node part known busy served sound =
    let s = seen node sound in
    sound_as (with_loans (node.kept.now.loans ++ loan ∷ []) node) (record {
      fits = s.fits;
      ordered = s.ordered;
      parts = parts_beside node node.manager.known node.queues (with_loans (node.kept.now.loans ++ loan ∷ []) node).kept loan.tid part busy
          (λ t apart is. is) (λ t apart. any_last (is_standing_loan t node.setting.inc) node.kept.now.loans loan (other t apart))
          (all_found loan.tid (is_sound_part node) node.manager.known part known s.parts) node.manager.known known s.ordered s.parts;
      queues = s.queues;
      loans = all_last (is_sound_loan node) node.kept.now.loans loan s.loans (its (is_standing_loan loan.tid node.setting.inc loan));
      labels = s.labels;
    })
  where
    its : (b : Bool) → where_so b (may_be_served node loan.tid) ≡ true
    its true = served
    its false = refl

    other : (t : Tid) → is_at (tid_cmp loan.tid) t ≡ false → is_standing_loan t node.setting.inc loan ≡ false
    other t apart = by (same_tid t loan.tid) (grind (arith, nat_tests, apart))
      where
        by : (b : Bool) → b ≡ false → (b && (not loan.yielded && (loan.inc == node.setting.inc))) ≡ false
        by b is = rw is refl

-- ---- loans of which no more stand

-- each loan has its tid and incarnation, and is given back where it was
pub fewer_loans_sound : (loans : List Lent) (node : NodeValue) → ((t : Tid) → list_any (is_standing_loan t node.setting.inc) loans ≡ true → list_any (is_standing_loan t node.setting.inc) node.kept.now.loans ≡ true)
    → list_all (is_sound_loan node) loans ≡ true → is_sound node ≡ true → is_sound (with_loans loans node) ≡ true
fewer_loans_sound loans node less all sound =
    let s = seen node sound in
    sound_as (with_loans loans node) (record {
      fits = s.fits;
      ordered = s.ordered;
      parts = parts_moved node node.manager.known node.queues (with_loans loans node).kept (λ t is. is) less node.manager.known s.parts;
      queues = s.queues;
      loans = all;
      labels = s.labels;
    })

module _ (client : ClientNo) (tid : Tid) where
  any_take : (p : Lent → Bool) → ((loan : Lent) → p (record loan { taken = true }) ≡ p loan) → (loans : List Lent) → list_any p (take_first client tid loans) ≡ list_any p loans
  any_take p same [] = refl
  any_take p same (loan ∷ loans) = by (is_untaken client tid loan) (any_take p same loans)
    where
      by : (b : Bool) → list_any p (take_first client tid loans) ≡ list_any p loans → list_any p (if b then record loan { taken = true } ∷ loans else loan ∷ take_first client tid loans) ≡ (p loan || list_any p loans)
      by true rest = ap (λ (x : Bool). x || list_any p loans) (same loan)
      by false rest = ap (λ (x : Bool). p loan || x) rest

  all_take : (p : Lent → Bool) → ((loan : Lent) → p (record loan { taken = true }) ≡ p loan) → (loans : List Lent) → list_all p (take_first client tid loans) ≡ list_all p loans
  all_take p same [] = refl
  all_take p same (loan ∷ loans) = by (is_untaken client tid loan) (all_take p same loans)
    where
      by : (b : Bool) → list_all p (take_first client tid loans) ≡ list_all p loans → list_all p (if b then record loan { taken = true } ∷ loans else loan ∷ take_first client tid loans) ≡ (p loan && list_all p loans)
      by true rest = ap (λ (x : Bool). x && list_all p loans) (same loan)
      by false rest = ap (λ (x : Bool). p loan && x) rest

  any_give : (p : Lent → Bool) → ((loan : Lent) → p (record loan { yielded = true }) ≡ true → p loan ≡ true) → (loans : List Lent) → list_any p (give_back client tid loans) ≡ true → list_any p loans ≡ true
  any_give p less [] = λ is. is
  any_give p less (loan ∷ loans) = by (is_taken client tid loan && not (is_some (last_taken client tid loans))) (any_give p less loans)
    where
      by : (b : Bool) → (list_any p (give_back client tid loans) ≡ true → list_any p loans ≡ true) → list_any p (if b then record loan { yielded = true } ∷ loans else loan ∷ give_back client tid loans) ≡ true → (p loan || list_any p loans) ≡ true
      by true rest is = either (p (record loan { yielded = true })) (list_any p loans) is (p loan || list_any p loans) (λ so. or_left (p loan) (list_any p loans) (less loan so)) (or_right (p loan) (list_any p loans))
      by false rest is = either (p loan) (list_any p (give_back client tid loans)) is (p loan || list_any p loans) (or_left (p loan) (list_any p loans)) (λ so. or_right (p loan) (list_any p loans) (rest so))

  all_give : (p : Lent → Bool) → ((loan : Lent) → p loan ≡ true → p (record loan { yielded = true }) ≡ true) → (loans : List Lent) → list_all p loans ≡ true → list_all p (give_back client tid loans) ≡ true
  all_give p more [] is = is
  all_give p more (loan ∷ loans) is = by (is_taken client tid loan && not (is_some (last_taken client tid loans))) (all_give p more loans (and_both (p loan) (list_all p loans) is).1)
    where
      both : (p loan ≡ true) × (list_all p loans ≡ true)
      both = and_both (p loan) (list_all p loans) is

      by : (b : Bool) → list_all p (give_back client tid loans) ≡ true → list_all p (if b then record loan { yielded = true } ∷ loans else loan ∷ give_back client tid loans) ≡ true
      by true rest = both_and (p (record loan { yielded = true })) (list_all p loans) (more loan both.0) both.1
      by false rest = both_and (p loan) (list_all p (give_back client tid loans)) both.0 rest

  -- what was given back does not stand
  given_less : (t : Tid) (inc : Rattle.std.proofs.Common.ℕ) (loan : Lent) → is_standing_loan t inc (record loan { yielded = true }) ≡ true → is_standing_loan t inc loan ≡ true
  given_less t inc loan is = by (same_tid t loan.tid) is
    where
      by : (b : Bool) → (b && false) ≡ true → (b && (not loan.yielded && (loan.inc == inc))) ≡ true
      by true so = absurd (cc (so))
      by false so = absurd (cc (so))

  given_sound : (node : NodeValue) (loan : Lent) → is_sound_loan node loan ≡ true → is_sound_loan node (record loan { yielded = true }) ≡ true
  given_sound node loan is = by (same_tid loan.tid loan.tid)
    where
      by : (b : Bool) → where_so (b && false) (may_be_served node loan.tid) ≡ true
      by true = refl
      by false = refl

pub take_sound : TakeSound
take_sound client tid loan work sound =
    answer_sound client (if is_void tid loan work.node then answers.Ended else answers.Done) taken
    (fewer_loans_sound (take_first client tid work.node.kept.now.loans) work.node
    (λ t is. sym (any_take client tid (is_standing_loan t work.node.setting.inc) (λ loan. refl) work.node.kept.now.loans) ∙ is)
    (all_take client tid (is_sound_loan work.node) (λ loan. refl) work.node.kept.now.loans ∙ (seen work.node sound).loans) sound)
  where
    taken : Work
    taken = Rattle.qs_node_step.specs.State.with_kept (λ kept. record kept { loans = take_first client tid kept.loans }) work

pub yield_sound : YieldSound
yield_sound client tid work sound =
    answer_sound client answers.Done given
    (fewer_loans_sound (give_back client tid work.node.kept.now.loans) work.node
    (λ t. any_give client tid (is_standing_loan t work.node.setting.inc) (given_less client tid t work.node.setting.inc) work.node.kept.now.loans)
    (all_give client tid (is_sound_loan work.node) (given_sound client tid work.node) work.node.kept.now.loans (seen work.node sound).loans) sound)
  where
    given : Work
    given = Rattle.qs_node_step.specs.State.with_doings tid (λ doings. record doings { yielded = true })
        (Rattle.qs_node_step.specs.Bringing.enter (Rattle.qs_book_journal.specs.declared.entry.Act.TheVariants.Yield tid client)
        (Rattle.qs_node_step.specs.State.with_kept (λ kept. record kept { loans = give_back client tid kept.loans }) work))
