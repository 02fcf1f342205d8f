-- A request that is issued has a number that its node gave in the incarnation in which it is.
use Rattle.qs_world_runs.proofs.Words.{◌≡◌, ℕ, ◌+◌, ◌≤◌, false, sym, ◌∙◌, arith, le_refl, same_tid-self, same_tid, inc_at, link_to, TransactionValue, issued, sent_in, sent_on, Request, RequestNo, entry_of, HasGiven}
use Rattle.qs_book_journal.specs.declared.entry.Act.TheVariants as acts
use Rattle.qs_world_runs.specs.RepliesTrue.{IssuesGive}
use Rattle.qs_world_runs.proofs.PlacedIssued.{given_own, numbered_next}
use Rattle.qs_world_runs.proofs.RepliesEntries.{stays}

pub issues_give : IssuesGive
issues_give book n stamp tid issuer member number op tx inv found fine = stays book (entry_of n stamp (acts.Issue tid issuer member number op)) n inc tid Next (HasGiven n inc member.node.0 number) inv fine
    (λ now. record { own = λ same t there next. given t next; other = λ apart. absurd (far apart) })
    (record { begun = le_refl inc; holds = λ now. record { tx = tx; found = found; holds = numbered_next book n stamp tid issuer member number op fine tx found } })
  where
    inc : ℕ
    inc = inc_at book (record { 0 = n })

    at : RequestNo
    at = record { link = link_to n member; number = number }

    request : Request
    request = record { issuer = issuer; member = member; op = op; inc = inc; served = false }

    Next : TransactionValue → Type 0
    Next t = number ≡ sent_in inc (sent_on t at.link) + 1

    last : (a b c : ℕ) → a ≡ b + 1 → c ≡ b + 1 → a ≤ c
    last a b c p q = omega (arith, p, q)

    given : (t : TransactionValue) → Next t → HasGiven n inc member.node.0 number (issued at request (inc_at book member.node) book.place t)
    given t next = last number (sent_in inc (sent_on t at.link)) (sent_in inc (sent_on (issued at request (inc_at book member.node) book.place t) at.link)) next (given_own t at request (inc_at book member.node) book.place)

    far : same_tid tid tid ≡ false → ⊥
    far apart = cc (sym (same_tid-self tid) ∙ apart)
