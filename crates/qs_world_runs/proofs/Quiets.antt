-- Where nothing waits at nodes that run, nothing is on its way, and all present lives agree, a transaction that is so placed is unanimous.
use Rattle.qs_world_runs.proofs.Words.{◌≡◌, ◌⊎◌, inl, inr, ℕ, ◌+◌, ◌≤◌, ◌&&◌, Bool, true, false, List, [], ◌∷◌, length, suc, is_some, refl, sym, ap, ◌∙◌, arith, if◌then◌else◌, nat_tests, filter, list_all, same_member, ServerNo, Tid, queue_at, Delivery, TransactionValue, agrees, all_served, is_empty, is_served, is_standing, Life, Part, Request, RequestNo, none_waits, at_server, Field, standing, waiting, asked, goes_there, IsPlaced, EachPlaced, IsLife, EachLives, Placed, suc_not_zero}
use Rattle.qs_world_runs.proofs.Words.{next_not_zero, and_from, and_parts}
use Rattle.qs_ipc.specs.Queue.{count_of, is_of}
use Rattle.qs_world_lawful.specs.Face.{is_numbered}
use Rattle.qs_world_runs.specs.PlacedLaws.{IsQuiet, QuietUnanimous}
use Rattle.qs_base_lemmas.proofs.Tests.{le_zero}

-- ---- what does not wait

pub none_counted : (tid : Tid) (ds : List Delivery) → count_of tid ds ≡ 0 → filter (is_of tid) ds ≡ []
none_counted tid [] none = refl
none_counted tid (d ∷ ds) none = by (is_of tid d) refl none (none_counted tid ds)
  where
    by : (b : Bool) → is_of tid d ≡ b → (if b then count_of tid ds + 1 else count_of tid ds) ≡ 0 → (count_of tid ds ≡ 0 → filter (is_of tid) ds ≡ []) → filter (is_of tid) (d ∷ ds) ≡ []
    by true is zero_is more = absurd (next_not_zero (count_of tid ds) zero_is)
    by false is zero_is more = rw is (more zero_is)

-- ---- what stands nowhere was served

module _ (at : RequestNo) where
  all_were : (requests : List Request) → list_all (goes_there at) requests ≡ true → ((server : ServerNo) → standing at server requests ≡ 0) → list_all is_served requests ≡ true
  all_were [] there none = refl
  all_were (request ∷ requests) there none = by request.served refl (all_were requests (and_parts (goes_there at request) (list_all (goes_there at) requests) there).1)
    where
      here : goes_there at request ≡ true
      here = (and_parts (goes_there at request) (list_all (goes_there at) requests) there).0

      less : (b : Bool) (xs : List Request) → length (if b then request ∷ xs else xs) ≡ 0 → length xs ≡ 0
      less true xs is = absurd (suc_not_zero (length xs) is)
      less false xs is = is

      rest : (server : ServerNo) → standing at server requests ≡ 0
      rest server = less (is_standing (at_server at.link.to server) request) (filter (is_standing (at_server at.link.to server)) requests) (none server)

      own : (b : Bool) → request.served ≡ b → b ≡ false → ⊥
      own true is so = cc so
      own false is so = suc_not_zero (length (filter (is_standing (at_server at.link.to request.member.server)) requests)) (sym counted ∙ none request.member.server)
        where
          same : same_member request.member (at_server at.link.to request.member.server) ≡ true
          same = grind (arith, nat_tests, here)

          stands : is_standing (at_server at.link.to request.member.server) request ≡ true
          stands = rw (same, is) refl

          counted : standing at request.member.server (request ∷ requests) ≡ suc (length (filter (is_standing (at_server at.link.to request.member.server)) requests))
          counted = rw stands refl

      by : (b : Bool) → request.served ≡ b → (((server : ServerNo) → standing at server requests ≡ 0) → list_all is_served requests ≡ true) → list_all is_served (request ∷ requests) ≡ true
      by true is more = and_from request.served (list_all is_served requests) is (more rest)
      by false is more = absurd (own false is refl)

module _ (tid : Tid) (tx : TransactionValue) (field : Field) (quiet : IsQuiet tid tx field) where
  none_placed : (at : RequestNo) (requests : List Request) → IsPlaced tid field at requests → (server : ServerNo) → standing at server requests ≡ 0
  none_placed at requests placed server = by (field.up at.link.to.0) refl
    where
      below : (a b c d : ℕ) → a ≤ b + (c + d) → b ≡ 0 → c ≡ 0 → d ≡ 0 → a ≡ 0
      below a b c d less p q r = omega (arith, less, p, q, r)

      none_kept : asked tid server at.number (field.kept at.link.from.0 at.link.to.0) ≡ 0
      none_kept = quiet.keeps at.link.from.0 at.link.to.0 placed.from_in placed.to_in server at.number

      none_waiting : field.up at.link.to.0 ≡ true → waiting tid field at server ≡ 0
      none_waiting up = ap (λ (ds : List Delivery). length (filter (is_numbered at) ds))
          (none_counted tid (queue_at (field.node at.link.to.0).queues server).waiting (none_waits tid (field.node at.link.to.0).queues server (quiet.idle at.link.to.0 placed.to_in up)))

      by : (b : Bool) → field.up at.link.to.0 ≡ b → standing at server requests ≡ 0
      by true up = below (standing at server requests) (waiting tid field at server) (asked tid server at.number (field.sent at.link.from.0 at.link.to.0)) (asked tid server at.number (field.kept at.link.from.0 at.link.to.0)) (placed.runs up server) (none_waiting up)
          (quiet.ways at.link.from.0 at.link.to.0 placed.from_in placed.to_in up server at.number) none_kept
      by false down = le_zero (standing at server requests) (asked tid server at.number (field.kept at.link.from.0 at.link.to.0)) (placed.stopped down server) none_kept

  served_all : (entries : List (RequestNo × List Request)) → EachPlaced tid field entries → list_all (λ (entry : RequestNo × List Request). list_all is_served entry.1) entries ≡ true
  served_all [] each = refl
  served_all (entry ∷ entries) each = and_from (list_all is_served entry.1) _ (all_were entry.0 entry.1 each.0.there (none_placed entry.0 entry.1 each.0)) (served_all entries each.1)

  agree_all : (entries : List (Life × Part)) → EachLives tx field entries → list_all agrees entries ≡ true
  agree_all [] each = refl
  agree_all (entry ∷ entries) each = and_from (agrees entry) (list_all agrees entries) (by each.0.lives) (agree_all entries each.1)
    where
      by : Rattle.qs_world_runs.specs.Placed.IsPresent field entry.0 ⊎ (agrees (entry.0, entry.1) ≡ true) → agrees entry ≡ true
      by (inl present) = quiet.lives entry.0 entry.1 each.0 present
      by (inr agreed) = agreed

pub quiet_unanimous : QuietUnanimous
quiet_unanimous tid tx field placed asked quiet = and_from (is_some tx.asked && all_served tx) (list_all agrees tx.parts && (is_empty tx.refusals && is_empty tx.crossed))
    (and_from (is_some tx.asked) (all_served tx) asked (served_all tid tx field quiet tx.requests placed.requests))
    (and_from (list_all agrees tx.parts) (is_empty tx.refusals && is_empty tx.crossed) (agree_all tid tx field quiet tx.parts placed.lives) (and_from (is_empty tx.refusals) (is_empty tx.crossed) placed.unrefused placed.uncrossed))
