-- A transaction may be aborted because a node is gone exactly where the node ran in that incarnation and a request stood open then.
use Rattle.qs_book_laws.proofs.Words.{◌≡◌, ◌⊎◌, inl, inr, ℕ, ◌<◌, ◌≤◌, ◌==◌, ◌||◌, Bool, true, false, List, ◌++◌, Some, refl, sym, ap, subst, ◌∙◌, arith, nat_tests, slice_get, list_any, NodeNo, Tid, Entry, TransactionValue, is_gone, BookValue, find_transaction, inc_at, IsLawful, book_after, NodeValue, opening, Opened, ran_as, IsCoherent}
use Rattle.qs_book_machine.specs.Clauses.{is_gone_cause}
use Rattle.qs_book_laws.specs.Gone.{restarts_beyond, StoodOpen, IsGone}
use Rattle.qs_book_laws.proofs.Beyond.{beyond_then, beyond_only, not_before}
use Rattle.qs_book_laws.proofs.Holding.{left_of}
use Rattle.qs_book_laws.proofs.OpenByEntries.{open_as}
use Rattle.qs_book_laws.proofs.OpenThen.{OpenThen}
use Rattle.qs_book_laws.proofs.Pasts.{inc_rises}
use Rattle.qs_book_laws.proofs.Steps.{after_both, lawful_front, lawful_rest}
use Rattle.qs_book_laws.proofs.StoodOpen.{stood_open, gone_then, ran_last, peer_inc}

-- ---- by what the machine counts, and by entries

module _ (opened : List Opened) (history : List Entry) (tid : Tid) (node : NodeNo) (gone : ℕ) (coherent : IsCoherent opened) (lawful : IsLawful (opening opened) history) where
  early_lawful : (early late : List Entry) → history ≡ early ++ late → IsLawful (opening opened) early
  early_lawful early late parts = lawful_front early late (opening opened) (subst (λ (h : List Entry). IsLawful (opening opened) h) parts lawful)

  by_entries : ran_as (opening opened) history node gone ≡ true → OpenThen (opening opened) history tid node gone → StoodOpen history tid node gone
  by_entries ran s = record {
    early = s.early;
    late = s.late;
    parts = s.parts;
    restarted = by (beyond_only node gone s.early (opening opened) (early_lawful s.early s.late s.parts) s.restarted);
    open_then = sym (open_as tid node opened s.early coherent (early_lawful s.early s.late s.parts)) ∙ s.open_then;
  }
    where
      by : (gone < inc_at (opening opened) node) ⊎ (list_any (restarts_beyond node gone) s.early ≡ true) → list_any (restarts_beyond node gone) s.early ≡ true
      by (inl above) = absurd (not_before node gone history (opening opened) lawful ran above)
      by (inr is) = is

  by_counts : StoodOpen history tid node gone → OpenThen (opening opened) history tid node gone
  by_counts s = record {
    early = s.early;
    late = s.late;
    parts = s.parts;
    restarted = beyond_then node gone s.early (opening opened) (early_lawful s.early s.late s.parts) s.restarted;
    open_then = open_as tid node opened s.early coherent (early_lawful s.early s.late s.parts) ∙ s.open_then;
  }

-- ---- the law

pub is_gone_only : (opened : List Opened) (history : List Entry) (tid : Tid) (node : NodeNo) (gone : ℕ) (tx : TransactionValue) (peer : NodeValue) → IsCoherent opened → IsLawful (opening opened) history
    → find_transaction (book_after (opening opened) history) tid ≡ Some tx → slice_get (book_after (opening opened) history).nodes node.0 ≡ Some peer → is_gone_cause (Some peer) tx node gone ≡ true
    → IsGone (opening opened) history tid node gone
is_gone_only opened history tid node gone tx peer coherent lawful found there is =
    record { ran = ran; stood = by_entries opened history tid node gone coherent lawful ran (stood_open opened history tid node gone tx peer coherent lawful found there is) }
  where
    last : (b : Bool) → list_any (λ (p : ℕ). p == gone) peer.past ≡ true → (b || list_any (λ (p : ℕ). p == gone) peer.past) ≡ true
    last true h = refl
    last false h = h

    ran : ran_as (opening opened) history node gone ≡ true
    ran = sym (ran_last opened history node gone peer coherent lawful there) ∙ last (peer.inc == gone) (left_of (list_any (λ (p : ℕ). p == gone) peer.past) (is_gone tx node peer.inc gone) is)

pub is_gone_whenever : (opened : List Opened) (history : List Entry) (tid : Tid) (node : NodeNo) (gone : ℕ) (tx : TransactionValue) (peer : NodeValue) → IsCoherent opened → IsLawful (opening opened) history
    → find_transaction (book_after (opening opened) history) tid ≡ Some tx → slice_get (book_after (opening opened) history).nodes node.0 ≡ Some peer → IsGone (opening opened) history tid node gone → is_gone_cause (Some peer) tx node gone ≡ true
is_gone_whenever opened history tid node gone tx peer coherent lawful found there g =
    gone_then opened history tid node gone tx peer coherent lawful found there
    (second (peer.inc == gone) (list_any (λ (p : ℕ). p == gone) peer.past) (apart gone peer.inc later) (ran_last opened history node gone peer coherent lawful there ∙ g.ran)) s
  where
    s : OpenThen (opening opened) history tid node gone
    s = by_counts opened history tid node gone coherent lawful g.stood

    whole : IsLawful (opening opened) (s.early ++ s.late)
    whole = subst (λ (h : List Entry). IsLawful (opening opened) h) s.parts lawful

    rest : IsLawful (book_after (opening opened) s.early) s.late
    rest = lawful_rest s.early s.late (opening opened) whole

    same : book_after (opening opened) history ≡ book_after (book_after (opening opened) s.early) s.late
    same = ap (book_after (opening opened)) s.parts ∙ after_both s.early s.late (opening opened)

    over : (a b c d : ℕ) → a < b → b ≤ c → d ≡ c → a < d
    over a b c d h k e = omega arith

    later : gone < peer.inc
    later =
        over gone (inc_at (book_after (opening opened) s.early) node) (inc_at (book_after (book_after (opening opened) s.early) s.late) node) peer.inc s.restarted (inc_rises node gone s.late (book_after (opening opened) s.early) rest)
        (sym (peer_inc (book_after (opening opened) history) node peer there) ∙ ap (λ (b : BookValue). inc_at b node) same)

    apart : (a b : ℕ) → a < b → (b == a) ≡ false
    apart a b h = grind (arith, nat_tests)

    second : (a b : Bool) → a ≡ false → (a || b) ≡ true → b ≡ true
    second true b e h = absurd (cc e)
    second false b e h = h
