-- A borrower takes a loan, and gives it back: each command as a whole, with its answer.
use Rattle.qs_world_lawful.proofs.Words.{◌≡◌, ℕ, ◌==◌, Bool, true, false, List, [], ◌∷◌, Option, Some, None, suc, refl, sym, ap, subst, ◌∙◌, length, nat_lt, true≢false, not, ◌||◌, if◌then◌else◌, filter, same_tid, ClientNo, NodeNo, Tid, same_tid-self, Command, TransactionValue, BookValue, find_transaction, first_untaken, take_first, last_taken, Lent, take, take_command, yield, lent_command, loan_command, is_void, is_aborted, enter, Work, with_kept, with_doings, face_of, is_loan_in}
use Rattle.qs_world_lawful.proofs.Words.{is_loan_here, is_given_back, HoldsTid, HoldsAt, IsAsking, HoldsWork, book_at}
use Rattle.qs_node_step.specs.Borrowing.{with_loan}
use Rattle.qs_ops.specs.declared.answer.Answer.TheVariants as answers
use Rattle.qs_book_journal.specs.declared.entry.Act.TheVariants as acts
use Rattle.qs_book_journal.specs.declared.script_line.Command.TheVariants as commands
use Rattle.qs_node_kept.specs.Loans.{is_untaken, is_taken, give_back}
use Rattle.qs_node_step.specs.Bringing.{answer}
use Rattle.qs_node_step.specs.State.{NodeValue}
use Rattle.qs_world_lawful.specs.Face.{Face}
use Rattle.qs_world_lawful.proofs.Answers.{by_answer}
use Rattle.qs_world_lawful.proofs.Frames.{held_on, clients_on}
use Rattle.qs_world_lawful.proofs.Growing.{kept_on}
use Rattle.qs_world_lawful.proofs.Lending.{by_give_back}
use Rattle.qs_world_lawful.proofs.Loans.{taken_of, later_is}

-- ---- loans that are taken count as before

module _ (client : ClientNo) (tid : Tid) where
  take_same : (p : Lent → Bool) → ((loan : Lent) → p (record loan { taken = true }) ≡ p loan) → (t : Tid) (loans : List Lent)
      → length (filter p (filter (is_loan_in t) (take_first client tid loans))) ≡ length (filter p (filter (is_loan_in t) loans))
  take_same p blind t [] = refl
  take_same p blind t (loan ∷ loans) = by (is_untaken client tid loan) refl (take_same p blind t loans)
    where
      own : (a : Bool) → is_loan_in t loan ≡ a → length (filter p (filter (is_loan_in t) (record loan { taken = true } ∷ loans))) ≡ length (filter p (filter (is_loan_in t) (loan ∷ loans)))
      own true q = rw q (rw (blind loan) (second (p loan) refl))
        where
          second : (b : Bool) → p loan ≡ b → length (if b then record loan { taken = true } ∷ filter p (filter (is_loan_in t) loans) else filter p (filter (is_loan_in t) loans)) ≡ length (filter p (loan ∷ filter (is_loan_in t) loans))
          second true r = rw r refl
          second false r = rw r refl
      own false q = rw q refl

      past : (a : Bool) → is_loan_in t loan ≡ a → (b : Bool) → p loan ≡ b → length (filter p (filter (is_loan_in t) (take_first client tid loans))) ≡ length (filter p (filter (is_loan_in t) loans))
          → length (filter p (filter (is_loan_in t) (loan ∷ take_first client tid loans))) ≡ length (filter p (filter (is_loan_in t) (loan ∷ loans)))
      past true q true r rest = rw q (rw r (ap suc rest))
      past true q false r rest = rw q (rw r rest)
      past false q b r rest = rw q rest

      by : (b : Bool) → is_untaken client tid loan ≡ b → length (filter p (filter (is_loan_in t) (take_first client tid loans))) ≡ length (filter p (filter (is_loan_in t) loans))
          → length (filter p (filter (is_loan_in t) (take_first client tid (loan ∷ loans)))) ≡ length (filter p (filter (is_loan_in t) (loan ∷ loans)))
      by true this rest = rw this (own (is_loan_in t loan) refl)
      by false this rest = rw this (past (is_loan_in t loan) refl (p loan) refl rest)

  take_none : (t : Tid) (loans : List Lent) → filter (is_loan_in t) loans ≡ [] → filter (is_loan_in t) (take_first client tid loans) ≡ []
  take_none t loans none = empty _ (take_same_all loans ∙ ap length none)
    where
      empty : (ls : List Lent) → length ls ≡ 0 → ls ≡ []
      empty [] e = refl
      empty (l ∷ ls) e = absurd (cc e)

      take_same_all : (ls : List Lent) → length (filter (is_loan_in t) (take_first client tid ls)) ≡ length (filter (is_loan_in t) ls)
      take_same_all ls = sym (ap length (all _)) ∙ (take_same (λ l. true) (λ l. refl) t ls ∙ ap length (all _))
        where
          all : (xs : List Lent) → filter (λ l. true) xs ≡ xs
          all [] = refl
          all (x ∷ xs) = ap (λ (rest : List Lent). x ∷ rest) (all xs)

  -- who took a loan of it has one
  last_none : (loans : List Lent) (last : Lent) → last_taken client tid loans ≡ Some last → filter (is_loan_in tid) loans ≡ [] → ⊥
  last_none [] last is none = absurd (cc is)
  last_none (loan ∷ loans) last is none = by (is_loan_in tid loan) refl (last_none loans last) none
    where
      untaken : is_loan_in tid loan ≡ false → (b : Bool) → is_taken client tid loan ≡ b → b ≡ false
      untaken out false so = refl
      untaken out true so = absurd (true≢false (sym (subst (λ (t : Tid). same_tid tid t ≡ true) (sym (taken_of client tid loan so).1) (same_tid-self tid)) ∙ out))

      by : (a : Bool) → is_loan_in tid loan ≡ a → (last_taken client tid loans ≡ Some last → filter (is_loan_in tid) loans ≡ [] → ⊥) → filter (is_loan_in tid) (loan ∷ loans) ≡ [] → ⊥
      by true so more e = absurd (cc (rw so at e))
      by false so more e = more (later_is client tid loan last loans (rw (untaken so (is_taken client tid loan) refl) refl) is) (rw so at e)

tid_lent : (here : NodeNo) (inc : ℕ) (tid : Tid) (tx : TransactionValue) (face : Face) (loans : List Lent)
    → ((client : ClientNo) → length (filter (is_loan_here client inc) loans) ≡ length (filter (is_loan_here client inc) face.loans))
    → ((client : ClientNo) → length (filter (is_given_back client inc) loans) ≡ length (filter (is_given_back client inc) face.loans))
    → HoldsTid here inc tid tx face → HoldsTid here inc tid tx (record face { loans = loans })
tid_lent here inc tid tx face loans made back h = record {
  sized = h.sized;
  members = h.members;
  asked = h.asked;
  outcome = h.outcome;
  silent = h.silent;
  local = h.local;
  sent = h.sent;
  pending = h.pending;
  noted = h.noted;
  queued = h.queued;
  made = λ client small. h.made client small ∙ sym (made client);
  yielded = λ client small. h.yielded client small ∙ sym (back client);
  home = h.home;
}

module _ (stamp : ℕ) (before : BookValue) (work : Work) (h : HoldsWork stamp before work) (client : ClientNo) (tid : Tid) where
  abbrev taken_work : Work
  taken_work = with_kept (λ kept. record kept { loans = take_first client tid kept.loans }) work

  -- a loan is taken
  pub by_taken : HoldsWork stamp before (with_kept (λ kept. record kept { loans = take_first client tid kept.loans }) work)
  by_taken = kept_on stamp before work taken_work h refl refl
      (held_on stamp book book node new h.holds (record { setting = refl; at = refl; in_inc = refl }) refl h.holds.state (record { up = refl; inc = refl; begun = refl; format = refl })
      h.holds.order refl h.holds.there (λ t is. is) (λ t. at_taken t (find_transaction book t) (h.holds.at t))
      (clients_on book book node new (λ t. refl) (λ k. refl) (record { setting = refl; at = refl; in_inc = refl }) (record { commands = refl; labels = refl; outcomes = refl }) h.holds.clients (λ t. refl)) h.holds.servers h.holds.waits)
    where
      node : NodeValue
      node = work.node

      new : NodeValue
      new = taken_work.node

      book : BookValue
      book = book_at stamp before work

      at_taken : (t : Tid) (o : Option TransactionValue) → HoldsAt node.setting.node node.setting.inc t o (face_of node t) → HoldsAt node.setting.node node.setting.inc t o (face_of new t)
      at_taken t (Some tx) held = tid_lent node.setting.node node.setting.inc t tx (face_of node t) (face_of new t).loans
          (λ c. take_same client tid (is_loan_here c node.setting.inc) (λ l. refl) t node.kept.now.loans)
          (λ c. take_same client tid (is_given_back c node.setting.inc) (λ l. refl) t node.kept.now.loans) held
      at_taken t None held = record { known = held.known; local = held.local; changes = held.changes; loans = take_none client tid t node.kept.now.loans held.loans; waiting = held.waiting }

  -- a client that does not wait for a commit is told that it ended, or that it is done
  module _ (idle : (t : Tid) → IsAsking work.node t client → ⊥) where
    pub by_take : (loan : Lent) → HoldsWork stamp before (take client tid loan work)
    by_take loan = by (is_void tid loan taken_work.node)
      where
        idle_on : (t : Tid) → IsAsking taken_work.node t client → ⊥
        idle_on t a = idle t (record { command = a.command; waits = a.waits; commits = a.commits; unissued = a.unissued; begun = a.begun; labelled = a.labelled; of = a.of; owned = a.owned })

        by : (b : Bool) → HoldsWork stamp before (answer client (if b then answers.Ended else answers.Done) taken_work)
        by true = by_answer stamp before taken_work client answers.Ended by_taken (λ owner there. refl) idle_on
        by false = by_answer stamp before taken_work client answers.Done by_taken (λ owner there. refl) idle_on

    -- where there is a loan to take
    pub by_take_command : HoldsWork stamp before (take_command client tid work)
    by_take_command = by (first_untaken client tid work.node.kept.now.loans)
      where
        by : (o : Option Lent) → HoldsWork stamp before (elim o [ None ↦ work | Some loan ↦ take client tid loan work ])
        by None = h
        by (Some loan) = by_take loan

    pub not_void : (a b : Bool) → (not a || b) ≡ false → a ≡ true
    not_void true b e = refl
    not_void false b e = absurd (cc e)

    -- what is commanded of a loan is done where it stands; else the client is told that it is given back, or worth nothing
    pub by_loan_command : (c : Command) → ((last : Lent) → last_taken client tid work.node.kept.now.loans ≡ Some last → last.yielded ≡ false → is_void tid last work.node ≡ false → HoldsWork stamp before (lent_command client tid c work))
        → HoldsWork stamp before (loan_command client tid c work)
    by_loan_command c present = by (last_taken client tid work.node.kept.now.loans) refl
      where
        by : (o : Option Lent) → last_taken client tid work.node.kept.now.loans ≡ o → HoldsWork stamp before (elim o [ None ↦ work | Some loan ↦ with_loan client tid c loan work ])
        by None is = h
        by (Some loan) is = given loan.yielded refl
          where
            void : (b : Bool) → is_void tid loan work.node ≡ b → loan.yielded ≡ false → HoldsWork stamp before (if b then answer client answers.Ended work else lent_command client tid c work)
            void true so stands = by_answer stamp before work client answers.Ended h (λ owner there. refl) idle
            void false so stands = present loan is stands so

            given : (b : Bool) → loan.yielded ≡ b → HoldsWork stamp before (if b then answer client answers.NotYours work else if is_void tid loan work.node then answer client answers.Ended work else lent_command client tid c work)
            given true so = by_answer stamp before work client answers.NotYours h (λ owner there. refl) idle
            given false so = void (is_void tid loan work.node) refl so

    -- its present loan is given back, and the client is told so
    module _ (small : nat_lt client.0 224 ≡ true) where
      abbrev back_work : Work
      back_work = enter (acts.Yield tid client) (with_kept (λ kept. record kept { loans = give_back client tid kept.loans }) work)

      pub by_yield : (last : Lent) → last_taken client tid work.node.kept.now.loans ≡ Some last → last.yielded ≡ false → (last.inc == work.node.setting.inc) ≡ true → HoldsWork stamp before (yield client tid work)
      by_yield last is stands in_inc = by_found (find_transaction (book_at stamp before work) tid) refl
        where
          told : HoldsWork stamp before back_work → HoldsWork stamp before (yield client tid work)
          told back =
              let noted : HoldsWork stamp before yielded = kept_on stamp before back_work yielded back refl refl back.holds in
              by_answer stamp before yielded client answers.Done noted (λ owner there. refl) idle_on
            where
              yielded : Work
              yielded = with_doings tid (λ doings. record doings { yielded = true }) back_work

              idle_on : (t : Tid) → IsAsking yielded.node t client → ⊥
              idle_on t a = idle t (record { command = a.command; waits = a.waits; commits = a.commits; unissued = a.unissued; begun = a.begun; labelled = a.labelled; of = a.of; owned = a.owned })

          by_found : (o : Option TransactionValue) → find_transaction (book_at stamp before work) tid ≡ o → HoldsWork stamp before (yield client tid work)
          by_found (Some tx) found = told (by_give_back stamp before work tid client tx h found small last is stands in_inc)
          by_found None found = absurd (last_none client tid work.node.kept.now.loans last is (empty (subst (λ (o : Option TransactionValue). HoldsAt work.node.setting.node work.node.setting.inc tid o (face_of work.node tid)) found (h.holds.at tid))))
            where
              empty : HoldsAt work.node.setting.node work.node.setting.inc tid None (face_of work.node tid) → filter (is_loan_in tid) work.node.kept.now.loans ≡ []
              empty held = held.loans

      -- its present loan may be given back already, and may be worth nothing any more
      pub by_yield_command : HoldsWork stamp before (loan_command client tid commands.Yield work)
      by_yield_command = by_loan_command commands.Yield (λ last is stands valid. by_yield last is stands (not_void (last.inc == work.node.setting.inc) (is_aborted tid work.node) valid))
