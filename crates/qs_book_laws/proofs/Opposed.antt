-- A vote against commit is never forgotten, and commit is asked for by an entry alone.
use Rattle.qs_book_laws.proofs.Words.{◌≡◌, ℕ, ◌||◌, Bool, true, false, List, [], ◌∷◌, ◌++◌, Option, Some, None, refl, sym, ap, subst, ◌∙◌, is_some, slice_get, same_tid, Member, Outcome, Tid, same_tid-true, Vote, Act, Begin, Issue, Serve, Ask, Counted, Decide, Ending, Learn, Loan, Yield, Tick, Crash, Restart, Entry, TransactionValue, is_empty, learnt, lent, given_back, BookValue, find_transaction, inc_at, borrower_at, broken_vote, broken_act, broken, effect, IsLawful, book_after, NodeValue}
use Rattle.qs_base.specs.declared.identifiers.Outcome.TheVariants as outcomes
use Rattle.qs_ops.specs.declared.vote.Vote.TheVariants as votes
use Rattle.qs_book_journal.specs.declared.entry.Act.TheVariants.{Answer}
use Rattle.qs_book_journal.specs.declared.entry.Act.TheVariants as acts
use Rattle.qs_book_machine.specs.Transaction.{refusals_after}
use Rattle.qs_book_machine.specs.declared.transaction.Refusal.{Refusal}
use Rattle.qs_book_laws.specs.Unanimity.{asks, asks_in, is_against, votes_against, is_refused_in}
use Rattle.qs_book_laws.proofs.Always.{IsSo, step_so}
use Rattle.qs_book_laws.proofs.Ends.{lawful_node}
use Rattle.qs_book_laws.proofs.Holding.{left_of, right_of, clash}
use Rattle.qs_book_laws.proofs.Outcomes.{Inv}
use Rattle.qs_book_laws.proofs.Steps.{stepped}
use Rattle.qs_book_laws.proofs.Takes.{some_same}
use Rattle.qs_book_laws.proofs.Turns.{Stands, Same, Gives, GivesFor, Obliged, step_turns}
use Rattle.std.proofs.lemmas.Bool.{or_parts}

-- ---- refusals

more_refusals : (xs ys : List Refusal) → is_empty xs ≡ false → is_empty (xs ++ ys) ≡ false
more_refusals [] ys h = absurd (cc h)
more_refusals (x ∷ xs) ys h = refl

one_refusal : (xs : List Refusal) (y : Refusal) → is_empty (xs ++ y ∷ []) ≡ false
one_refusal [] y = refl
one_refusal (x ∷ xs) y = refl

after_vote : (ballot : Vote) (member : Member) (xs : List Refusal) → is_empty xs ≡ false → is_empty (refusals_after ballot member xs) ≡ false
after_vote (votes.Abort reason) member xs h = more_refusals xs _ h
after_vote votes.ReadOnly member xs h = h
after_vote votes.Volatile member xs h = h
after_vote votes.Recoverable member xs h = h

after_against : (ballot : Vote) (member : Member) (xs : List Refusal) → is_against ballot ≡ true → is_empty (refusals_after ballot member xs) ≡ false
after_against (votes.Abort reason) member xs h = one_refusal xs _
after_against votes.ReadOnly member xs h = absurd (cc h)
after_against votes.Volatile member xs h = absurd (cc h)
after_against votes.Recoverable member xs h = absurd (cc h)

-- ---- what of a transaction only votes and asking change

module _ (tid : Tid) (R : List Refusal → Option ℕ → Type 0) where
  abbrev pub P : TransactionValue → Type 0
  P tx = R tx.refusals tx.asked

  plain : (book : BookValue) (t : Tid) (f : TransactionValue → TransactionValue) → Same P (λ tx. P (f tx)) → Gives tid P P book t f
  plain book t f same = record { own = λ is tx found p. same tx p; other = λ apart tx p. p }

  learnt_same : (other : Member) (inc : ℕ) (outcome : Outcome) (tx : TransactionValue) → P tx → P (learnt other inc outcome tx)
  learnt_same other inc outcomes.Commit tx p = p
  learnt_same other inc outcomes.Abort tx p = p

  lends : (book : BookValue) (t : Tid) (o : Option Member) (f : Member → TransactionValue → TransactionValue) → ((m : Member) (tx : TransactionValue) → P tx → P (f m tx)) → GivesFor tid P P book t f o
  lends book t None f same = λ tx p. p
  lends book t (Some m) f same = plain book t (f m) (same m)

  -- every other act
  pub rest_owed : (book : BookValue) (stamp here : ℕ) (act : Act) → ((t : Tid) (m : Member) (ballot : Vote) (covers : ℕ) → act ≡ acts.Vote t m ballot covers → Obliged tid P P book stamp here (acts.Vote t m ballot covers))
      → ((t : Tid) → act ≡ Ask t → Obliged tid P P book stamp here (Ask t)) → Obliged tid P P book stamp here act
  rest_owed book stamp here (Begin t label client) v a = λ tx p. p
  rest_owed book stamp here (Issue t issuer m n op) v a = plain book t _ (λ tx p. p)
  rest_owed book stamp here (Serve t m from n reply) v a = plain book t _ (λ tx p. p)
  rest_owed book stamp here (acts.Vote t m ballot covers) v a = v t m ballot covers refl
  rest_owed book stamp here (Ask t) v a = a t refl
  rest_owed book stamp here (Counted t peer so_far) v a = plain book t _ (λ tx p. p)
  rest_owed book stamp here (Decide t outcome cause) v a = plain book t _ (λ tx p. p)
  rest_owed book stamp here (Ending t m) v a = plain book t _ (λ tx p. p)
  rest_owed book stamp here (Learn t m outcome) v a = plain book t _ (learnt_same m (inc_at book (record { 0 = here })) outcome)
  rest_owed book stamp here (Answer client line said) v a = (λ n k tx p. p, λ tx p. p)
  rest_owed book stamp here (Loan t client) v a = lends book t (borrower_at client here) (λ m. lent m (inc_at book (record { 0 = here }))) (λ m tx p. p)
  rest_owed book stamp here (Yield t client) v a = lends book t (borrower_at client here) (λ m. given_back m (inc_at book (record { 0 = here }))) (λ m tx p. p)
  rest_owed book stamp here Tick v a = λ tx p. p
  rest_owed book stamp here (Crash cause) v a = λ tx p. p
  rest_owed book stamp here (Restart inc pend done) v a = (record { learnt = λ m tx p. p; decided = λ place outcome cause tx p. p; found = λ server covers changes tx p. p }, λ tx p. p)

-- ---- against

abbrev pub IsOpposed : TransactionValue → Type 0
IsOpposed tx = is_empty tx.refusals ≡ false

module _ (tid : Tid) where
  still_opposed : (book : BookValue) (stamp here : ℕ) (act : Act) → Obliged tid IsOpposed IsOpposed book stamp here act
  still_opposed book stamp here act =
      rest_owed tid (λ refusals asked. is_empty refusals ≡ false) book stamp here act
      (λ t m ballot covers is. record { own = λ s tx found p. after_vote ballot m tx.refusals p; other = λ apart tx p. p })
      (λ t is. record { own = λ s tx found p. p; other = λ apart tx p. p })

  opposes : (book : BookValue) (stamp here : ℕ) (act : Act) → votes_against tid act ≡ true → Obliged tid (λ tx. tx ≡ tx) IsOpposed book stamp here act
  opposes book stamp here (acts.Vote t m ballot covers) h = record {
    own = λ s tx found p. after_against ballot m tx.refusals (right_of (same_tid t tid) (is_against ballot) h);
    other = λ apart tx p. absurd (clash (left_of (same_tid t tid) (is_against ballot) h) apart);
  }
  opposes book stamp here act h = absurd (cc h)

  known_vote : (here : ℕ) (node : NodeValue) (t : Tid) (o : Option TransactionValue) (m : Member) (ballot : Vote) (covers : ℕ) → broken_vote here node t o m ballot covers ≡ None → (tx : TransactionValue) × (o ≡ Some tx)
  known_vote here node t None m ballot covers h = absurd (cc h)
  known_vote here node t (Some tx) m ballot covers h = (tx, refl)

  known_against : (book : BookValue) (entry : Entry) (act : Act) → entry.act ≡ act → broken book entry ≡ None → votes_against tid act ≡ true → (tx : TransactionValue) × (find_transaction book tid ≡ Some tx)
  known_against book entry (acts.Vote t m ballot covers) is h v =
      let at : (node : NodeValue) × (slice_get book.nodes entry.node.0 ≡ Some node) × (broken_act book entry.stamp entry.node.0 node (acts.Vote t m ballot covers) ≡ None) =
      lawful_node book entry (acts.Vote t m ballot covers) is (λ node. refl) h in
      subst (λ (x : Tid). (tx : TransactionValue) × (find_transaction book x ≡ Some tx)) (same_tid-true t tid (left_of (same_tid t tid) (is_against ballot) v))
      (known_vote entry.node.0 at.0 t (find_transaction book t) m ballot covers at.2)
  known_against book entry act is h v = absurd (cc v)

  opposed_last : (entries : List Entry) (book : BookValue) → Inv book → IsLawful book entries → Stands tid IsOpposed book → Stands tid IsOpposed (book_after book entries)
  opposed_last [] book i lawful s = s
  opposed_last (entry ∷ entries) book i lawful s =
      opposed_last entries (effect book entry) (stepped book entry i lawful.0).inv lawful.1
      (step_turns tid IsOpposed IsOpposed book entry i lawful.0 (still_opposed book entry.stamp entry.node.0 entry.act) s)

  pub unopposed : (entries : List Entry) (book : BookValue) (last : TransactionValue) → Inv book → IsLawful book entries → find_transaction (book_after book entries) tid ≡ Some last → is_empty last.refusals ≡ true → is_refused_in tid entries ≡ false
  unopposed [] book last i lawful found none = refl
  unopposed (entry ∷ entries) book last i lawful found none = by (votes_against tid entry.act) refl (unopposed entries (effect book entry) last inv lawful.1 found none)
    where
      inv : Inv (effect book entry)
      inv = (stepped book entry i lawful.0).inv

      by : (b : Bool) → votes_against tid entry.act ≡ b → is_refused_in tid entries ≡ false → (votes_against tid entry.act || is_refused_in tid entries) ≡ false
      by false is more = rw is more
      by true is more =
          let known : (tx : TransactionValue) × (find_transaction book tid ≡ Some tx) = known_against book entry entry.act refl lawful.0 is in
          let s : Stands tid IsOpposed (effect book entry) =
          step_turns tid (λ tx. tx ≡ tx) IsOpposed book entry i lawful.0 (opposes book entry.stamp entry.node.0 entry.act is) (record { tx = known.0; found = known.1; holds = refl }) in
          let end : Stands tid IsOpposed (book_after (effect book entry) entries) = opposed_last entries (effect book entry) inv lawful.1 s in
          absurd (clash none (subst IsOpposed (some_same end.tx last (sym end.found ∙ found)) end.holds))

  -- ---- asking

  abbrev pub IsUnasked : TransactionValue → Type 0
  IsUnasked tx = tx.asked ≡ None

  unasked_owed : (book : BookValue) (stamp here : ℕ) (act : Act) → asks tid act ≡ false → Obliged tid IsUnasked IsUnasked book stamp here act
  unasked_owed book stamp here act h =
      rest_owed tid (λ refusals asked. asked ≡ None) book stamp here act
      (λ t m ballot covers is. record { own = λ s tx found p. p; other = λ apart tx p. p })
      (λ t is. record { own = λ s tx found p. absurd (clash s (sym (ap (asks tid) is) ∙ h)); other = λ apart tx p. p })

  unasked_last : (entries : List Entry) (book : BookValue) → Inv book → IsLawful book entries → asks_in tid entries ≡ false → IsSo tid IsUnasked book → IsSo tid IsUnasked (book_after book entries)
  unasked_last [] book i lawful none so = so
  unasked_last (entry ∷ entries) book i lawful none so =
      let two : (asks tid entry.act ≡ false) × (asks_in tid entries ≡ false) = or_parts (asks tid entry.act) (asks_in tid entries) none in
      unasked_last entries (effect book entry) (stepped book entry i lawful.0).inv lawful.1 two.1
      (step_so tid IsUnasked book entry i lawful.0 (λ label client ticks. refl) (step_turns tid IsUnasked IsUnasked book entry i lawful.0 (unasked_owed book entry.stamp entry.node.0 entry.act two.0)) so)

  pub was_asked : (entries : List Entry) (book : BookValue) (last : TransactionValue) → Inv book → IsLawful book entries → IsSo tid IsUnasked book → find_transaction (book_after book entries) tid ≡ Some last → is_some last.asked ≡ true → asks_in tid entries ≡ true
  was_asked entries book last i lawful so found is = by (asks_in tid entries) refl
    where
      by : (b : Bool) → asks_in tid entries ≡ b → b ≡ true
      by true h = refl
      by false h = absurd (clash is (ap (λ (o : Option ℕ). is_some o) (unasked_last entries book i lawful h so last found)))
