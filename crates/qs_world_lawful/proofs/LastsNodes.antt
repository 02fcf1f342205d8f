-- A node before an entry and after it: its incarnations rise, and what is to come of it is nothing that the entry did.
use Rattle.qs_world_lawful.proofs.Words.{◌≡◌, ℕ, ◌<◌, ◌≤◌, ◌==◌, ◌&&◌, Bool, true, false, List, [], ◌∷◌, length, Some, None, zero, suc, refl, sym, ap, ◌∙◌, arith, nat_tests, slice_get, NodeNo, Tid, Act, Entry, Found, same_number, ran_run, Inv, BookValue, inc_at, broken, effect}
use Rattle.qs_book_journal.specs.declared.entry.Act.TheVariants as acts
use Rattle.qs_book_laws.proofs.Lives.{Reborn, inc_of_node, reborn}
use Rattle.qs_book_laws.proofs.Pasts.{inc_rises}
use Rattle.qs_book_laws.proofs.Serves.{inc_there}
use Rattle.qs_book_laws.proofs.Steps.{stepped}
use Rattle.qs_book_machine.specs.Nodes as machine
use Rattle.qs_world_lawful.proofs.EntryTurns.{Turning}
use Rattle.qs_world_lawful.proofs.LastsWell.{LastsWell}
use Rattle.qs_world_lawful.proofs.Turning.{IsFar, some_of}

some_at : {A : Type 0} (xs ys : List A) → length xs ≡ length ys → (n : ℕ) (x : A) → slice_get xs n ≡ Some x → (y : A) × (slice_get ys n ≡ Some y)
some_at [] ys same n x is = absurd (cc is)
some_at (x ∷ xs) [] same n z is = absurd (cc same)
some_at (x ∷ xs) (y ∷ ys) same zero z is = (y, refl)
some_at (x ∷ xs) (y ∷ ys) same (suc n) z is = some_at xs ys (cc same) n z is

module _ (book : BookValue) (entry : Entry) (w : LastsWell book) (h : broken book entry ≡ None) where
  abbrev new : BookValue
  new = effect book entry

  abbrev here : ℕ
  here = entry.node.0

  pub inv : Inv new
  inv = (stepped book entry w.inv h).inv

  pub record Was (n : NodeNo) (state : machine.NodeValue) : Type 0 where
    pub old : machine.NodeValue
    pub there : slice_get book.nodes n.0 ≡ Some old
    pub rises : old.inc ≤ state.inc

  pub node_was : (n : NodeNo) (state : machine.NodeValue) → slice_get new.nodes n.0 ≡ Some state → Was n state
  node_was n state is =
      let p = some_at new.nodes book.nodes (ran_run (entry ∷ []) book) n.0 state is in
      record {
        old = p.0;
        there = p.1;
        rises = lower p.0.inc (inc_at book n) (inc_at new n) state.inc (sym (inc_there book n.0 p.0 p.1)) (inc_rises n 0 (entry ∷ []) book (h, tt)) (inc_there new n.0 state is);
      }
    where
      lower : (a b c d : ℕ) → a ≡ b → b ≤ c → c ≡ d → a ≤ d
      lower a b c d p q r = omega arith

  -- the incarnation in which the entry's node acts is not to come
  pub now_low : (t : Turning book entry) (state : machine.NodeValue) → slice_get new.nodes here ≡ Some state → t.now ≤ state.inc
  now_low t state is = by entry.act refl
    where
      lower : (a b c d : ℕ) → a ≡ b → b ≤ c → c ≡ d → a ≤ d
      lower a b c d p q r = omega arith

      equal : (a b c : ℕ) → a ≡ b → b ≡ c → a ≤ c
      equal a b c p q = omega arith

      acting : ((inc : ℕ) (pend : List Found) (done : List Tid) → entry.act ≡ acts.Restart inc pend done → ⊥) → t.now ≤ state.inc
      acting none = lower t.now (inc_at book entry.node) (inc_at new entry.node) state.inc (t.acts_now none) (inc_rises entry.node 0 (entry ∷ []) book (h, tt)) (inc_there new here state is)

      by : (act : Act) → entry.act ≡ act → t.now ≤ state.inc
      by (acts.Restart inc pend done) e =
          let r : Reborn book new here inc = reborn book entry here inc pend done h e refl in
          equal t.now inc state.inc (t.stays inc pend done e) (some_of (sym r.now ∙ inc_of_node new here state is))
      by (acts.Begin tid label client) e = acting (λ n p d q. absurd (cc (sym e ∙ q)))
      by (acts.Issue tid issuer member number op) e = acting (λ n p d q. absurd (cc (sym e ∙ q)))
      by (acts.Serve tid member from number reply) e = acting (λ n p d q. absurd (cc (sym e ∙ q)))
      by (acts.Vote tid member ballot covers) e = acting (λ n p d q. absurd (cc (sym e ∙ q)))
      by (acts.Ask tid) e = acting (λ n p d q. absurd (cc (sym e ∙ q)))
      by (acts.Counted tid peer up_to) e = acting (λ n p d q. absurd (cc (sym e ∙ q)))
      by (acts.Decide tid outcome cause) e = acting (λ n p d q. absurd (cc (sym e ∙ q)))
      by (acts.Ending tid member) e = acting (λ n p d q. absurd (cc (sym e ∙ q)))
      by (acts.Learn tid member outcome) e = acting (λ n p d q. absurd (cc (sym e ∙ q)))
      by (acts.Answer client line said) e = acting (λ n p d q. absurd (cc (sym e ∙ q)))
      by (acts.Loan tid client) e = acting (λ n p d q. absurd (cc (sym e ∙ q)))
      by (acts.Yield tid client) e = acting (λ n p d q. absurd (cc (sym e ∙ q)))
      by acts.Tick e = acting (λ n p d q. absurd (cc (sym e ∙ q)))
      by (acts.Crash cause) e = acting (λ n p d q. absurd (cc (sym e ∙ q)))

  -- what is to come of a node is nothing that the entry did
  pub to_come : (t : Turning book entry) (n : NodeNo) (state : machine.NodeValue) → slice_get new.nodes n.0 ≡ Some state → (inc : ℕ) → state.inc < inc → IsFar here t.now n inc
  to_come t n state is inc later = by (n.0 == here) refl
    where
      apart : (a b c : ℕ) → a ≤ b → b < c → (c == a) ≡ false
      apart a b c p q = grind (arith, nat_tests, p, q)

      by : (b : Bool) → (n.0 == here) ≡ b → (b && (inc == t.now)) ≡ false
      by false far = refl
      by true near = apart t.now state.inc inc (now_low t state (ap (slice_get new.nodes) (sym (same_number n.0 here near)) ∙ is)) later
