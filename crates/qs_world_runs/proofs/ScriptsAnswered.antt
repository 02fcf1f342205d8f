-- The script of a client through the entries of a step: where it is answered its first line is behind it, and what is left of it stands on.
use Rattle.qs_world_runs.proofs.Words.{◌≡◌, ℕ, ◌≤◌, ◌==◌, Bool, true, false, List, [], ◌∷◌, Some, refl, sym, ap, subst, ◌∙◌, arith, nat_lt, le_refl, eqb-true, eqb-false, and_from, nat_tests, slice_get, ⊤, Act, ScriptLine, changed_at_here, BookValue, book_after, effect, Owner, are_rising, entries_of, entry_of, IsOfStep, Every, left_true, right_true}
use Rattle.qs_book_journal.specs.declared.entry.Act.TheVariants as acts
use Rattle.qs_book_machine.specs.Book.{changed_at, waiting_of, with_owner}
use Rattle.qs_world_lawful.specs.Scripts.{AreBehind, IsFresh}
use Rattle.qs_world_lawful.specs.WayLaws.{BeginsNone}
use Rattle.qs_world_lawful.proofs.AsideActs.{IsAnsweredBy, owners_keep}
use Rattle.qs_world_lawful.proofs.Quiet.{heard_owners}
use Rattle.qs_world_lawful.proofs.OtherScripts.{fresh_on}

-- an act that answers the client answers this line of it
abbrev pub AnswersAs : ℕ → ℕ → Act → Type 0
AnswersAs k line (acts.Answer client l said) = client.0 ≡ k → l ≡ line
AnswersAs k line act = ⊤

-- and none begins under a label that is left
pub record Passes (k line : ℕ) (labels : List (List ℕ)) (act : Act) : Type 0 where
  pub of_step : IsOfStep act
  pub answers : AnswersAs k line act
  pub begins : BeginsNone labels act

-- what was answered last is this line, or one before it
pub record IsPast (book : BookValue) (k line : ℕ) (labels : List (List ℕ)) : Type 0 where
  pub owner : Owner
  pub there : slice_get book.owners k ≡ Some owner
  pub most : owner.line ≤ line
  pub fresh : Every (IsFresh book) labels

module _ (n stamp k line : ℕ) (labels : List (List ℕ)) where
  one_passed : (book : BookValue) (act : Act) → Passes k line labels act → IsPast book k line labels → IsPast (effect book (entry_of n stamp act)) k line labels
  one_passed book act p past = by act p.of_step p.answers (fresh_on stamp n act p.of_step labels p.begins book past.fresh)
    where
      -- its line stays
      stays : (act : Act) → IsOfStep act → (IsAnsweredBy k act → ⊥) → Every (IsFresh (effect book (entry_of n stamp act))) labels → IsPast (effect book (entry_of n stamp act)) k line labels
      stays act of_step silent fresh =
          let o = owners_keep stamp n act of_step book k past.owner past.there in
          record { owner = o.0; there = o.1; most = subst (λ (l : ℕ). l ≤ line) (sym (o.2.1 silent)) past.most; fresh = fresh }

      by : (act : Act) → IsOfStep act → AnswersAs k line act → Every (IsFresh (effect book (entry_of n stamp act))) labels → IsPast (effect book (entry_of n stamp act)) k line labels
      by (acts.Answer client l said) of_step answers fresh = of (client.0 == k) refl
        where
          f : Owner → Owner
          f owner = record owner { line = l; waiting = [] }

          of : (b : Bool) → (client.0 == k) ≡ b → IsPast (effect book (entry_of n stamp (acts.Answer client l said))) k line labels
          of false far = stays (acts.Answer client l said) of_step (eqb-false client.0 k far) fresh
          of true near = record {
            owner = f past.owner;
            there = ap (λ (os : List Owner). slice_get os k) (heard_owners (waiting_of (slice_get book.owners client.0)) (with_owner client.0 f book))
                ∙ subst (λ (c : ℕ). slice_get (changed_at c f book.owners) k ≡ Some (f past.owner)) (sym (eqb-true client.0 k near)) (changed_at_here f book.owners k past.owner past.there);
            most = subst (λ (m : ℕ). l ≤ m) (answers (eqb-true client.0 k near)) (le_refl l);
            fresh = fresh;
          }
      by (acts.Restart inc pend done) of_step answers fresh = absurd of_step
      by (acts.Begin tid label client) of_step answers fresh = stays (acts.Begin tid label client) of_step (λ is. is) fresh
      by (acts.Issue tid issuer member number op) of_step answers fresh = stays (acts.Issue tid issuer member number op) of_step (λ is. is) fresh
      by (acts.Serve tid member from number reply) of_step answers fresh = stays (acts.Serve tid member from number reply) of_step (λ is. is) fresh
      by (acts.Vote tid member ballot covers) of_step answers fresh = stays (acts.Vote tid member ballot covers) of_step (λ is. is) fresh
      by (acts.Ask tid) of_step answers fresh = stays (acts.Ask tid) of_step (λ is. is) fresh
      by (acts.Counted tid peer up_to) of_step answers fresh = stays (acts.Counted tid peer up_to) of_step (λ is. is) fresh
      by (acts.Decide tid outcome cause) of_step answers fresh = stays (acts.Decide tid outcome cause) of_step (λ is. is) fresh
      by (acts.Ending tid member) of_step answers fresh = stays (acts.Ending tid member) of_step (λ is. is) fresh
      by (acts.Learn tid member outcome) of_step answers fresh = stays (acts.Learn tid member outcome) of_step (λ is. is) fresh
      by (acts.Loan tid client) of_step answers fresh = stays (acts.Loan tid client) of_step (λ is. is) fresh
      by (acts.Yield tid client) of_step answers fresh = stays (acts.Yield tid client) of_step (λ is. is) fresh
      by acts.Tick of_step answers fresh = stays acts.Tick of_step (λ is. is) fresh
      by (acts.Crash cause) of_step answers fresh = stays (acts.Crash cause) of_step (λ is. is) fresh

  pub all_passed : (acts : List Act) (book : BookValue) → Every (Passes k line labels) acts → IsPast book k line labels → IsPast (book_after book (entries_of n stamp acts)) k line labels
  all_passed [] book passes past = past
  all_passed (act ∷ more) book passes past = all_passed more (effect book (entry_of n stamp act)) passes.1 (one_passed book act passes.0 past)

-- where a line is next what was answered last is one before it, and once it is past the rest is behind
pub past_of : (book : BookValue) (k : ℕ) (first : ScriptLine) (rest : List ScriptLine) (labels : List (List ℕ)) → AreBehind book k (first ∷ rest) → Every (IsFresh book) labels → IsPast book k first.line labels
past_of book k first rest labels behind fresh = record { owner = behind.owner; there = behind.there; most = below behind.owner.line first.line (left_true (nat_lt behind.owner.line first.line) (are_rising first.line rest) behind.rise); fresh = fresh }
  where
    below : (a b : ℕ) → nat_lt a b ≡ true → a ≤ b
    below a b is = grind (arith, nat_tests, is)

pub behind_past : (book : BookValue) (k line : ℕ) (rest : List ScriptLine) (labels : List (List ℕ)) → are_rising line rest ≡ true → IsPast book k line labels → AreBehind book k rest
behind_past book k line rest labels rise past = record { owner = past.owner; there = past.there; rise = of rest rise }
  where
    of : (rest : List ScriptLine) → are_rising line rest ≡ true → are_rising past.owner.line rest ≡ true
    of [] rise = refl
    of (l ∷ more) rise = and_from (nat_lt past.owner.line l.line) (are_rising l.line more) (later past.owner.line line l.line past.most (left_true (nat_lt line l.line) (are_rising l.line more) rise)) (right_true (nat_lt line l.line) (are_rising l.line more) rise)
      where
        later : (a b c : ℕ) → a ≤ b → nat_lt b c ≡ true → nat_lt a c ≡ true
        later a b c low less = grind (arith, nat_tests, low, less)
