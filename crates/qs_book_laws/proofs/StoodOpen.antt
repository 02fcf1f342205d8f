-- A transaction is one that a node's restart cost exactly where, at some moment later than that, a request to the node was open.
use Rattle.qs_book_laws.proofs.Words.{◌≡◌, ◌⊎◌, inl, inr, ℕ, ◌<◌, ◌==◌, Bool, true, List, [], ◌∷◌, ◌++◌, Option, Some, None, refl, sym, ap, subst, ◌∙◌, if◌then◌else◌, ◌||◌, slice_get, nat_lt, list_any, NodeNo, Tid, Entry, TransactionValue, peer_of, is_gone, BookValue, find_transaction, inc_at, effect, IsLawful, book_after, NodeValue, opening, Opened, Owner, restarts_into, ran_as, IsCoherent, option_map, slice_get-map, opened_node, ltb-true, or-false}
use Rattle.qs_book_machine.specs.Clauses.{is_gone_cause}
use Rattle.qs_book_machine.specs.Opening.{no_owner}
use Rattle.qs_book_laws.proofs.Always.{opening_so}
use Rattle.qs_book_laws.proofs.Gone.{gone_in, IsPast, Keeps, Moved, IsBare, bare_goes, bare_past, moved}
use Rattle.qs_book_laws.proofs.Holding.{right_of, clash}
use Rattle.qs_book_laws.proofs.Openings.{opening_holds, opening_names, same_of}
use Rattle.qs_book_laws.proofs.OpenThen.{is_open_in, is_open_at, OpenThen}
use Rattle.qs_book_laws.proofs.Outcomes.{Inv}
use Rattle.qs_book_laws.proofs.Steps.{stepped, ran, after_both, lawful_front, lawful_rest}
use Rattle.qs_book_laws.proofs.Unanswered.{Waits}
use Rattle.qs_book_laws.proofs.Waiting.{waits_after}
use Rattle.qs_book_laws.proofs.WaitsByEntries.{waits_through}
use Rattle.qs_book_laws.proofs.InRun.{in_run}
use Rattle.qs_book_laws.proofs.LiveOpenings.{log_at}
use Rattle.qs_book_laws.proofs.Pasts.{run_of, has_run, ran_at, ran_through}
use Rattle.std.proofs.lemmas.Bool.{lt-ltb, and_from}

module _ (tid : Tid) (node : NodeNo) (gone : ℕ) where
  -- it was open, and so it is past from then on
  past_then : (book : BookValue) → gone < inc_at book node → is_open_at book tid node ≡ true → IsPast tid node gone book ≡ true
  past_then book later stood = of (find_transaction book tid) stood
    where
      of : (o : Option TransactionValue) → is_open_in node o ≡ true → gone_in tid node gone (inc_at book node) o ≡ true
      of None h = absurd (cc h)
      of (Some tx) h = ap (λ (b : Bool). nat_lt gone (if b then inc_at book node else (peer_of tx node).reached)) h ∙ lt-ltb gone (inc_at book node) later

  later_then : (book : BookValue) → IsPast tid node gone book ≡ true → is_open_at book tid node ≡ true → gone < inc_at book node
  later_then book past stood = ltb-true gone (inc_at book node) (of (find_transaction book tid) past stood)
    where
      of : (o : Option TransactionValue) → gone_in tid node gone (inc_at book node) o ≡ true → is_open_in node o ≡ true → nat_lt gone (inc_at book node) ≡ true
      of None p h = absurd (cc h)
      of (Some tx) p h = sym (ap (λ (b : Bool). nat_lt gone (if b then inc_at book node else (peer_of tx node).reached)) h) ∙ p

  -- ---- along a history

  pub ran_keeps : (entries : List Entry) (book : BookValue) (ws : List Waits) → Inv book → IsLawful book entries → Keeps tid node gone book ws → Keeps tid node gone (book_after book entries) (waits_through ws entries)
  ran_keeps [] book ws i lawful k = k
  ran_keeps (entry ∷ entries) book ws i lawful k =
      ran_keeps entries (effect book entry) (waits_after ws entry.act) (stepped book entry i lawful.0).inv lawful.1 (moved tid node gone book entry ws i lawful.0 k).keeps

  stays_past : (entries : List Entry) (book : BookValue) (ws : List Waits) → Inv book → IsLawful book entries → Keeps tid node gone book ws → IsPast tid node gone book ≡ true → IsPast tid node gone (book_after book entries) ≡ true
  stays_past [] book ws i lawful k past = past
  stays_past (entry ∷ entries) book ws i lawful k past =
      let m : Moved tid node gone book (effect book entry) (waits_after ws entry.act) = moved tid node gone book entry ws i lawful.0 k in
      stays_past entries (effect book entry) (waits_after ws entry.act) (stepped book entry i lawful.0).inv lawful.1 m.keeps (m.kept past)

  was_open : (entries : List Entry) (book : BookValue) (ws : List Waits) → Inv book → IsLawful book entries → Keeps tid node gone book ws → IsPast tid node gone (book_after book entries) ≡ true
      → (IsPast tid node gone book ≡ true) ⊎ OpenThen book entries tid node gone
  was_open [] book ws i lawful k past = inl past
  was_open (entry ∷ entries) book ws i lawful k past =
      let m : Moved tid node gone book (effect book entry) (waits_after ws entry.act) = moved tid node gone book entry ws i lawful.0 k in
      by m (was_open entries (effect book entry) (waits_after ws entry.act) (stepped book entry i lawful.0).inv lawful.1 m.keeps past)
    where
      now : IsPast tid node gone (effect book entry) ≡ true → (IsPast tid node gone book ≡ true) ⊎ (is_open_at (effect book entry) tid node ≡ true) → (IsPast tid node gone book ≡ true) ⊎ OpenThen book (entry ∷ entries) tid node gone
      now p (inl before) = inl before
      now p (inr stood) = inr (record { early = entry ∷ []; late = entries; parts = refl; restarted = later_then (effect book entry) p stood; open_then = stood })

      by : Moved tid node gone book (effect book entry) (waits_after ws entry.act) → (IsPast tid node gone (effect book entry) ≡ true) ⊎ OpenThen (effect book entry) entries tid node gone
          → (IsPast tid node gone book ≡ true) ⊎ OpenThen book (entry ∷ entries) tid node gone
      by m (inl p) = now p (m.back p)
      by m (inr s) = inr (record { early = entry ∷ s.early; late = s.late; parts = ap (λ (es : List Entry). entry ∷ es) s.parts; restarted = s.restarted; open_then = s.open_then })

  -- ---- the opening

  pub bare_first : (opened : List Opened) (tx : TransactionValue) → find_transaction (opening opened) tid ≡ Some tx → IsBare tid node gone tx
  bare_first opened = opening_so tid (IsBare tid node gone) (λ cell cause. (refl, refl)) (λ m inc covers changes tx p. p) opened

  pub keeps_first : (opened : List Opened) → IsCoherent opened → Keeps tid node gone (opening opened) []
  keeps_first opened coherent = record {
    clients = λ c o is. ap (λ (x : Owner). x.waiting) (same_of 256 c no_owner o (sym (ap (λ (os : List Owner). slice_get os c) (opening_names opened coherent).owners) ∙ is));
    goes = λ tx found. bare_goes tid node gone (inc_at (opening opened) node) tx (bare_first opened tx found);
    none = λ none. refl;
  }

  not_past : (opened : List Opened) → IsPast tid node gone (opening opened) ≡ true → ⊥
  not_past opened p = of (find_transaction (opening opened) tid) refl p
    where
      of : (o : Option TransactionValue) → find_transaction (opening opened) tid ≡ o → gone_in tid node gone (inc_at (opening opened) node) o ≡ true → ⊥
      of None is g = absurd (cc g)
      of (Some tx) is g = clash g (bare_past tid node gone (inc_at (opening opened) node) tx (bare_first opened tx is))

-- ---- the laws

pub peer_inc : (book : BookValue) (node : NodeNo) (peer : NodeValue) → slice_get book.nodes node.0 ≡ Some peer → inc_at book node ≡ peer.inc
peer_inc book node peer at = ap inc_in at
  where
    inc_in : Option NodeValue → ℕ
    inc_in o = elim o [ None ↦ 0 | Some v ↦ v.inc ]

pub stood_open : (opened : List Opened) (history : List Entry) (tid : Tid) (node : NodeNo) (gone : ℕ) (tx : TransactionValue) (peer : NodeValue) → IsCoherent opened → IsLawful (opening opened) history
    → find_transaction (book_after (opening opened) history) tid ≡ Some tx → slice_get (book_after (opening opened) history).nodes node.0 ≡ Some peer → is_gone_cause (Some peer) tx node gone ≡ true
    → OpenThen (opening opened) history tid node gone
stood_open opened history tid node gone tx peer coherent lawful found there is =
    by (was_open tid node gone history (opening opened) [] (opening_holds opened coherent) lawful (keeps_first tid node gone opened coherent) past)
  where
    book : BookValue
    book = book_after (opening opened) history

    past : IsPast tid node gone book ≡ true
    past =
        ap (gone_in tid node gone (inc_at book node)) found
        ∙ (ap (λ (n : ℕ). is_gone tx node n gone) (peer_inc book node peer there) ∙ right_of (list_any (λ (p : ℕ). p == gone) peer.past) (is_gone tx node peer.inc gone) is)

    by : (IsPast tid node gone (opening opened) ≡ true) ⊎ OpenThen (opening opened) history tid node gone → OpenThen (opening opened) history tid node gone
    by (inl p) = absurd (not_past tid node gone opened p)
    by (inr s) = s

pub gone_then : (opened : List Opened) (history : List Entry) (tid : Tid) (node : NodeNo) (gone : ℕ) (tx : TransactionValue) (peer : NodeValue) → IsCoherent opened → IsLawful (opening opened) history
    → find_transaction (book_after (opening opened) history) tid ≡ Some tx → slice_get (book_after (opening opened) history).nodes node.0 ≡ Some peer → list_any (λ (p : ℕ). p == gone) peer.past ≡ true
    → OpenThen (opening opened) history tid node gone → is_gone_cause (Some peer) tx node gone ≡ true
gone_then opened history tid node gone tx peer coherent lawful found there had s =
    and_from (list_any (λ (p : ℕ). p == gone) peer.past) (is_gone tx node peer.inc gone) had
    (sym (ap (λ (n : ℕ). is_gone tx node n gone) (peer_inc (book_after (opening opened) history) node peer there)) ∙ (sym (ap (gone_in tid node gone (inc_at (book_after (opening opened) history) node)) found) ∙ past))
  where
    whole : IsLawful (opening opened) (s.early ++ s.late)
    whole = subst (λ (h : List Entry). IsLawful (opening opened) h) s.parts lawful

    first : Inv (opening opened)
    first = opening_holds opened coherent

    early : IsLawful (opening opened) s.early
    early = lawful_front s.early s.late (opening opened) whole

    mid : BookValue
    mid = book_after (opening opened) s.early

    k : Keeps tid node gone mid (waits_through [] s.early)
    k = ran_keeps tid node gone s.early (opening opened) [] first early (keeps_first tid node gone opened coherent)

    last : IsPast tid node gone (book_after mid s.late) ≡ true
    last =
        stays_past tid node gone s.late mid (waits_through [] s.early) (ran s.early (opening opened) first early).inv (lawful_rest s.early s.late (opening opened) whole) k
        (past_then tid node gone mid s.restarted s.open_then)

    past : IsPast tid node gone (book_after (opening opened) history) ≡ true
    past =
        ap (λ (h : List Entry). IsPast tid node gone (book_after (opening opened) h)) s.parts
        ∙ (ap (λ (b : BookValue). IsPast tid node gone b) (after_both s.early s.late (opening opened)) ∙ last)

-- ---- and the incarnations

ran_first : (opened : List Opened) (one : Opened) (node : NodeNo) (gone : ℕ) → IsCoherent opened → slice_get opened node.0 ≡ Some one → ran_at node gone (opening opened) ≡ (inc_at (opening opened) node == gone)
ran_first opened one node gone coherent is =
    ap (λ (o : Option NodeValue). has_run node gone (option_map run_of o)) there
    ∙ (or-false (one.inc == gone) ∙ ap (λ (n : ℕ). n == gone) (sym (peer_inc (opening opened) node (opened_node one) there)))
  where
    there : slice_get (opening opened).nodes node.0 ≡ Some (opened_node one)
    there =
        ap (λ (nodes : List NodeValue). slice_get nodes node.0) (opening_names opened coherent).nodes
        ∙ (slice_get-map opened_node opened node.0 ∙ ap (λ (o : Option Opened). option_map opened_node o) is)

pub ran_last : (opened : List Opened) (history : List Entry) (node : NodeNo) (gone : ℕ) (peer : NodeValue) → IsCoherent opened → IsLawful (opening opened) history → slice_get (book_after (opening opened) history).nodes node.0 ≡ Some peer
    → ((peer.inc == gone) || list_any (λ (p : ℕ). p == gone) peer.past) ≡ ran_as (opening opened) history node gone
ran_last opened history node gone peer coherent lawful there =
    let one : (x : Opened) × (slice_get opened node.0 ≡ Some x) = log_at opened node.0 (in_run opened history node.0 peer coherent there) in
    sym (ap (λ (o : Option NodeValue). has_run node gone (option_map run_of o)) there)
    ∙ (ran_through node gone history (opening opened) lawful ∙ ap (λ (b : Bool). b || list_any (restarts_into node gone) history) (ran_first opened one.0 node gone coherent one.1))
