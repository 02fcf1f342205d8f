-- A node that ran in an incarnation is in a later one exactly where an entry restarted it into a later one.
use Rattle.qs_book_laws.proofs.Words.{◌≡◌, ◌⊎◌, inl, inr, ℕ, ◌<◌, ◌≤◌, ◌==◌, ◌&&◌, ◌||◌, Bool, true, false, List, [], ◌∷◌, Option, None, Some, refl, sym, ap, ◌∙◌, arith, nat_tests, nat_lt, unwrap_or, list_any, NodeNo, Act, Restart, Entry, BookValue, inc_at, broken, effect, IsLawful, book_after, restarts_into, ran_as, is_restart, restarts, or_left, or_right}
use Rattle.qs_book_laws.specs.Gone.{is_restart_into, is_restart_beyond, restarts_beyond}
use Rattle.qs_book_laws.proofs.Gone.{inc_as}
use Rattle.qs_book_laws.proofs.Holding.{clash, left_of, same_number}
use Rattle.qs_book_laws.proofs.Lives.{same_life, Reborn, reborn, Restarting, restarting}
use Rattle.qs_book_laws.proofs.Pasts.{inc_rises}

module _ (node : NodeNo) (gone : ℕ) where
  -- ---- a step

  module _ (book : BookValue) (entry : Entry) (h : broken book entry ≡ None) where
    same_inc : restarts node entry ≡ false → inc_at (effect book entry) node ≡ inc_at book node
    same_inc far = inc_as (effect book entry) node ∙ (ap (λ (o : Option ℕ). unwrap_or o 0) (same_life node book entry far h) ∙ sym (inc_as book node))

    record Reopened : Type 0 where
      inc : ℕ
      now : inc_at (effect book entry) node ≡ inc
      later : inc_at book node < inc
      into : restarts_into node gone entry ≡ (inc == gone)
      beyond : restarts_beyond node gone entry ≡ nat_lt gone inc

    lower : (a b c : ℕ) → a ≡ b → b < c → a < c
    lower a b c e k = omega arith

    reopens : restarts node entry ≡ true → Reopened
    reopens near =
        let r : Restarting node entry = restarting node entry near in
        let x : Reborn book (effect book entry) node.0 r.inc = reborn book entry node.0 r.inc r.pend r.done h r.act r.here in
        record {
          inc = r.inc;
          now = inc_as (effect book entry) node ∙ ap (λ (o : Option ℕ). unwrap_or o 0) x.now;
          later = lower (inc_at book node) x.old r.inc (inc_as book node ∙ ap (λ (o : Option ℕ). unwrap_or o 0) x.was) x.later;
          into = ap (λ (a : Act). (entry.node.0 == node.0) && is_restart_into gone a) r.act ∙ ap (λ (b : Bool). b && (r.inc == gone)) (left_of (entry.node.0 == node.0) (is_restart entry.act) near);
          beyond = ap (λ (a : Act). (entry.node.0 == node.0) && is_restart_beyond gone a) r.act ∙ ap (λ (b : Bool). b && nat_lt gone r.inc) (left_of (entry.node.0 == node.0) (is_restart entry.act) near);
        }

    none_of : (p : Act → Bool) → ((act : Act) → is_restart act ≡ false → p act ≡ false) → restarts node entry ≡ false → ((entry.node.0 == node.0) && p entry.act) ≡ false
    none_of p none far = by (entry.node.0 == node.0) (is_restart entry.act) refl far
      where
        by : (a b : Bool) → is_restart entry.act ≡ b → (a && b) ≡ false → (a && p entry.act) ≡ false
        by false b is k = refl
        by true b is k = none entry.act (is ∙ k)

    not_into : restarts node entry ≡ false → restarts_into node gone entry ≡ false
    not_into = none_of (is_restart_into gone) of
      where
        of : (act : Act) → is_restart act ≡ false → is_restart_into gone act ≡ false
        of (Restart inc pend done) k = absurd (cc k)
        of act k = refl

    not_beyond : restarts node entry ≡ false → restarts_beyond node gone entry ≡ false
    not_beyond = none_of (is_restart_beyond gone) of
      where
        of : (act : Act) → is_restart act ≡ false → is_restart_beyond gone act ≡ false
        of (Restart inc pend done) k = absurd (cc k)
        of act k = refl

  -- ---- along a history

  over : (a b c d : ℕ) → nat_lt a b ≡ true → c ≡ b → c ≤ d → a < d
  over a b c d h e k = grind (arith, nat_tests)

  pub beyond_then : (entries : List Entry) (book : BookValue) → IsLawful book entries → list_any (restarts_beyond node gone) entries ≡ true → gone < inc_at (book_after book entries) node
  beyond_then [] book lawful h = absurd (cc h)
  beyond_then (entry ∷ entries) book lawful h = by (restarts node entry) refl (beyond_then entries (effect book entry) lawful.1)
    where
      last : BookValue
      last = book_after (effect book entry) entries

      of : (a b : Bool) → restarts_beyond node gone entry ≡ a → list_any (restarts_beyond node gone) entries ≡ b → (a || b) ≡ true → (restarts_beyond node gone entry ≡ true) ⊎ (list_any (restarts_beyond node gone) entries ≡ true)
      of true b e f k = inl e
      of false b e f k = inr (f ∙ k)

      some : (restarts_beyond node gone entry ≡ true) ⊎ (list_any (restarts_beyond node gone) entries ≡ true)
      some = of (restarts_beyond node gone entry) (list_any (restarts_beyond node gone) entries) refl refl h

      by : (b : Bool) → restarts node entry ≡ b → (list_any (restarts_beyond node gone) entries ≡ true → gone < inc_at last node) → gone < inc_at last node
      by false far rest = at some
        where
          at : (restarts_beyond node gone entry ≡ true) ⊎ (list_any (restarts_beyond node gone) entries ≡ true) → gone < inc_at last node
          at (inl k) = absurd (clash k (not_beyond book entry lawful.0 far))
          at (inr k) = rest k
      by true near rest = at some
        where
          x : Reopened book entry lawful.0
          x = reopens book entry lawful.0 near

          at : (restarts_beyond node gone entry ≡ true) ⊎ (list_any (restarts_beyond node gone) entries ≡ true) → gone < inc_at last node
          at (inl k) = over gone x.inc (inc_at (effect book entry) node) (inc_at last node) (sym x.beyond ∙ k) x.now (inc_rises node gone entries (effect book entry) lawful.1)
          at (inr k) = rest k

  less : (a b c : ℕ) → a < b → b ≡ c → nat_lt a c ≡ true
  less a b c h e = grind (arith, nat_tests)

  pub beyond_only : (entries : List Entry) (book : BookValue) → IsLawful book entries → gone < inc_at (book_after book entries) node → (gone < inc_at book node) ⊎ (list_any (restarts_beyond node gone) entries ≡ true)
  beyond_only [] book lawful h = inl h
  beyond_only (entry ∷ entries) book lawful h = at (beyond_only entries (effect book entry) lawful.1 h)
    where
      equal : (a b c : ℕ) → a < b → b ≡ c → a < c
      equal a b c k e = omega arith

      now : gone < inc_at (effect book entry) node → (b : Bool) → restarts node entry ≡ b → (gone < inc_at book node) ⊎ (list_any (restarts_beyond node gone) (entry ∷ entries) ≡ true)
      now k false far = inl (equal gone (inc_at (effect book entry) node) (inc_at book node) k (same_inc book entry lawful.0 far))
      now k true near =
          let x : Reopened book entry lawful.0 = reopens book entry lawful.0 near in
          inr (or_left (restarts_beyond node gone entry) (list_any (restarts_beyond node gone) entries) (x.beyond ∙ less gone (inc_at (effect book entry) node) x.inc k x.now))

      at : (gone < inc_at (effect book entry) node) ⊎ (list_any (restarts_beyond node gone) entries ≡ true) → (gone < inc_at book node) ⊎ (list_any (restarts_beyond node gone) (entry ∷ entries) ≡ true)
      at (inl k) = now k (restarts node entry) refl
      at (inr k) = inr (or_right (restarts_beyond node gone entry) (list_any (restarts_beyond node gone) entries) k)

  -- it restarted into that one from a lesser one
  into_rises : (entries : List Entry) (book : BookValue) → IsLawful book entries → list_any (restarts_into node gone) entries ≡ true → inc_at book node < gone
  into_rises [] book lawful h = absurd (cc h)
  into_rises (entry ∷ entries) book lawful h = by (restarts node entry) (restarts_into node gone entry) refl refl h (into_rises entries (effect book entry) lawful.1)
    where
      equal : (a b c : ℕ) → b < c → b ≡ a → a < c
      equal a b c k e = omega arith

      further : (a b c d : ℕ) → a < b → c ≡ b → c < d → a < d
      further a b c d k e f = omega arith

      by : (b c : Bool) → restarts node entry ≡ b → restarts_into node gone entry ≡ c → (c || list_any (restarts_into node gone) entries) ≡ true → (list_any (restarts_into node gone) entries ≡ true → inc_at (effect book entry) node < gone) → inc_at book node < gone
      by false true far is k rest = absurd (clash is (not_into book entry lawful.0 far))
      by false false far is k rest = equal (inc_at book node) (inc_at (effect book entry) node) gone (rest k) (same_inc book entry lawful.0 far)
      by true true near is k rest =
          let x : Reopened book entry lawful.0 = reopens book entry lawful.0 near in
          to (inc_at book node) x.inc x.later (same_number x.inc gone (sym x.into ∙ is))
        where
          to : (a b : ℕ) → a < b → b ≡ gone → a < gone
          to a b p e = omega arith
      by true false near is k rest =
          let x : Reopened book entry lawful.0 = reopens book entry lawful.0 near in
          further (inc_at book node) x.inc (inc_at (effect book entry) node) gone x.later x.now (rest k)

  -- so it did not open in a later one
  pub not_before : (entries : List Entry) (book : BookValue) → IsLawful book entries → ran_as book entries node gone ≡ true → gone < inc_at book node → ⊥
  not_before entries book lawful ran above = by (inc_at book node == gone) refl ran
    where
      apart : (a b : ℕ) → a < b → (b == a) ≡ true → ⊥
      apart a b h k = grind (arith, nat_tests)

      both : (a b : ℕ) → a < b → b < a → ⊥
      both a b h k = omega arith

      by : (b : Bool) → (inc_at book node == gone) ≡ b → (b || list_any (restarts_into node gone) entries) ≡ true → ⊥
      by true is k = apart gone (inc_at book node) above is
      by false is k = both gone (inc_at book node) above (into_rises entries book lawful k)
