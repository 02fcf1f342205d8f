-- The requests that clients wait for after some entries are those issues among them that had no answer since.
use Rattle.qs_book_laws.proofs.Words.{◌≡◌, ℕ, ◌+◌, ◌-◌, ◌==◌, ◌&&◌, ◌||◌, Bool, true, false, not, List, [], ◌∷◌, ◌++◌, refl, sym, ap, ◌∙◌, if◌then◌else◌, arith, nat_tests, nat_lt, list_any, same_tid, NodeNo, Tid, is_client_no, Act, Issue, Entry, and_false, false-or, or_assoc, or-false}
use Rattle.qs_ops.specs.Servers.{client_no}
use Rattle.qs_book_journal.specs.declared.entry.Act.TheVariants.{Answer}
use Rattle.qs_book_laws.specs.Gone.{answers, is_answer_to, waits_still}
use Rattle.qs_book_laws.proofs.Unanswered.{Waits, is_to, times, all_of, without}
use Rattle.qs_book_laws.proofs.Waiting.{waits_after}

abbrev pub waits_through : List Waits → List Entry → List Waits
waits_through ws [] = ws
waits_through ws (entry ∷ entries) = waits_through (waits_after ws entry.act) entries

module _ (tid : Tid) (node : NodeNo) where
  -- of a client that waits still for it
  abbrev pub is_waiting_issue : Act → List Entry → Bool
  is_waiting_issue (Issue t issuer member number op) since = (same_tid t tid && (member.node.0 == node.0)) && waits_still issuer.server.0 since
  is_waiting_issue act since = false

  abbrev pub some_wait : List Entry → Bool
  some_wait [] = false
  some_wait (entry ∷ since) = is_waiting_issue entry.act since || some_wait since

  -- a request that waits now is answered by none of these entries
  abbrev waits_on : List Entry → Waits → Bool
  waits_on since w = is_to tid node w.asking && not (list_any (answers (client_no w.client)) since)

  any_more : (since : List Entry) (ws : List Waits) (w : Waits) → list_any (waits_on since) (ws ++ w ∷ []) ≡ (list_any (waits_on since) ws || waits_on since w)
  any_more since [] w = or-false (waits_on since w)
  any_more since (x ∷ ws) w = ap (λ (b : Bool). waits_on since x || b) (any_more since ws w) ∙ sym (or_assoc (waits_on since x) (list_any (waits_on since) ws) (waits_on since w))

  any_now : (ws : List Waits) → nat_lt 0 (times tid node (all_of ws)) ≡ list_any (waits_on []) ws
  any_now [] = refl
  any_now (w ∷ ws) = by (is_to tid node w.asking) (any_now ws)
    where
      some : (n : ℕ) → nat_lt 0 (1 + n) ≡ true
      some n = grind (arith, nat_tests)

      nothing : (n : ℕ) → nat_lt 0 (0 + n) ≡ nat_lt 0 n
      nothing n = ap (λ (m : ℕ). nat_lt 0 m) (omega arith)

      by : (b : Bool) → nat_lt 0 (times tid node (all_of ws)) ≡ list_any (waits_on []) ws → nat_lt 0 ((if b then 1 else 0) + times tid node (all_of ws)) ≡ ((b && true) || list_any (waits_on []) ws)
      by true h = some (times tid node (all_of ws))
      by false h = nothing (times tid node (all_of ws)) ∙ h

  -- an entry that is no answer
  no_answer : (entry : Entry) (since : List Entry) → ((server : ℕ) → answers server entry ≡ false) → (ws : List Waits) → list_any (waits_on since) ws ≡ list_any (waits_on (entry ∷ since)) ws
  no_answer entry since none [] = refl
  no_answer entry since none (w ∷ ws) =
      ap (λ (b : Bool). (is_to tid node w.asking && not (b || list_any (answers (client_no w.client)) since)) || list_any (waits_on since) ws) (sym (none (client_no w.client)))
      ∙ ap (λ (b : Bool). waits_on (entry ∷ since) w || b) (no_answer entry since none ws)

  -- an answer to a client
  an_answer : (entry : Entry) (since : List Entry) (client : ℕ) → ((server : ℕ) → answers server entry ≡ (client_no client == server)) → (ws : List Waits) → list_any (waits_on since) (without client ws) ≡ list_any (waits_on (entry ∷ since)) ws
  an_answer entry since client is [] = refl
  an_answer entry since client is (w ∷ ws) = by (w.client == client) refl (an_answer entry since client is ws)
    where
      alike : (a c : ℕ) (b : Bool) → (a == c) ≡ b → (client_no c == client_no a) ≡ b
      alike a c b e = grind (arith, nat_tests)

      told : (b : Bool) → (w.client == client) ≡ b → answers (client_no w.client) entry ≡ b
      told b e = is (client_no w.client) ∙ alike w.client client b e

      by : (b : Bool) → (w.client == client) ≡ b → list_any (waits_on since) (without client ws) ≡ list_any (waits_on (entry ∷ since)) ws
          → list_any (waits_on since) (if b then without client ws else w ∷ without client ws) ≡ (waits_on (entry ∷ since) w || list_any (waits_on (entry ∷ since)) ws)
      by true e more =
          more
          ∙ sym (ap (λ (b : Bool). (is_to tid node w.asking && not (b || list_any (answers (client_no w.client)) since)) || list_any (waits_on (entry ∷ since)) ws) (told true e)
          ∙ ap (λ (b : Bool). b || list_any (waits_on (entry ∷ since)) ws) (and_false (is_to tid node w.asking)))
      by false e more =
          ap (λ (b : Bool). (is_to tid node w.asking && not (b || list_any (answers (client_no w.client)) since)) || list_any (waits_on since) (without client ws)) (sym (told false e))
          ∙ ap (λ (b : Bool). waits_on (entry ∷ since) w || b) more

  -- ---- and on through all of them

  pub wait_through : (entries : List Entry) (ws : List Waits) → nat_lt 0 (times tid node (all_of (waits_through ws entries))) ≡ (list_any (waits_on entries) ws || some_wait entries)
  wait_through [] ws = any_now ws ∙ false-or (list_any (waits_on []) ws)
  wait_through (entry ∷ since) ws = wait_through since (waits_after ws entry.act) ∙ by entry.act refl
    where
      plain : (act : Act) → entry.act ≡ act → ((server : ℕ) → is_answer_to server act ≡ false) → is_waiting_issue act since ≡ false
          → (list_any (waits_on since) ws || some_wait since) ≡ (list_any (waits_on (entry ∷ since)) ws || (is_waiting_issue act since || some_wait since))
      plain act is none nothing =
          ap (λ (b : Bool). b || some_wait since) (no_answer entry since (λ server. ap (is_answer_to server) is ∙ none server) ws)
          ∙ ap (λ (b : Bool). list_any (waits_on (entry ∷ since)) ws || (b || some_wait since)) (sym nothing)

      by : (act : Act) → entry.act ≡ act → (list_any (waits_on since) (waits_after ws act) || some_wait since) ≡ (list_any (waits_on (entry ∷ since)) ws || (is_waiting_issue act since || some_wait since))
      by (Issue t issuer member number op) is = of (is_client_no issuer.server.0) refl
        where
          w : Waits
          w = record { client = issuer.server.0 - 32; asking = record { tid = t; node = member.node } }

          G : Bool
          G = same_tid t tid && (member.node.0 == node.0)

          before : list_any (waits_on since) ws ≡ list_any (waits_on (entry ∷ since)) ws
          before = no_answer entry since (λ server. ap (is_answer_to server) is) ws

          number_of : (s : ℕ) → is_client_no s ≡ true → client_no (s - 32) ≡ s
          number_of s h = of_bound s (bound s h)
            where
              bound : (s : ℕ) → nat_lt 31 s ≡ true → nat_lt 31 s ≡ true
              bound s h = h

              of_bound : (s : ℕ) → nat_lt 31 s ≡ true → (s - 32) + 32 ≡ s
              of_bound s h = grind (arith, nat_tests)

          of : (b : Bool) → is_client_no issuer.server.0 ≡ b
              → (list_any (waits_on since) (if b then ws ++ w ∷ [] else ws) || some_wait since) ≡ (list_any (waits_on (entry ∷ since)) ws || ((G && (is_client_no issuer.server.0 && not (list_any (answers issuer.server.0) since))) || some_wait since))
          of true client =
              ap (λ (b : Bool). b || some_wait since) (any_more since ws w)
              ∙ (or_assoc (list_any (waits_on since) ws) (waits_on since w) (some_wait since)
              ∙ (ap (λ (b : Bool). b || (waits_on since w || some_wait since)) before
              ∙ (ap (λ (s : ℕ). list_any (waits_on (entry ∷ since)) ws || ((G && not (list_any (answers s) since)) || some_wait since)) (number_of issuer.server.0 client)
              ∙ ap (λ (b : Bool). list_any (waits_on (entry ∷ since)) ws || ((G && (b && not (list_any (answers issuer.server.0) since))) || some_wait since)) (sym client))))
          of false other =
              ap (λ (b : Bool). b || some_wait since) before
              ∙ sym (ap (λ (b : Bool). list_any (waits_on (entry ∷ since)) ws || ((G && (b && not (list_any (answers issuer.server.0) since))) || some_wait since)) other
              ∙ ap (λ (b : Bool). list_any (waits_on (entry ∷ since)) ws || (b || some_wait since)) (and_false G))
      by (Answer client line said) is = ap (λ (b : Bool). b || some_wait since) (an_answer entry since client.0 (λ server. ap (is_answer_to server) is) ws)
      by act is = plain act is (λ server. refl) refl
