-- By a script that is read no client sits at two nodes: a second seat of a client is a fault of its line.
use Rattle.std.proofs.Common.{◌≡◌, ◌⊎◌, ◌∙◌, ap, inl, inr, sym, ℕ, ◌==◌, false, List, [], ◌∷◌, ◌++◌, arith}
use Rattle.std.proofs.lemmas.Bool.Decides.{nat_tests}
use Rattle.qs_book_script.specs.Statements.{line_states}
use Rattle.qs_book_script.specs.declared.script.Script.{Script}
use Rattle.qs_book_script.specs.declared.script.Seat.{Seat}
use Rattle.qs_book_script.specs.declared.statement.Statement.{Statement}
use Rattle.qs_book_script.specs.declared.statement.Statement.TheVariants as states
use Rattle.qs_session_channels.proofs.Grown.{among_append}
use Rattle.qs_session_channels.specs.Network.{Among}
use Rattle.qs_text_script.specs.Rules.{is_again, is_client, seats_after}
use Rattle.qs_world_nodes.proofs.Planned.{neither}
use Rattle.qs_world_nodes.specs.Openings.{ReadSitOnce, SitOnce}
use Rattle.qs_world_opening.proofs.Reading.{read_all}

unlike : (a b : ℕ) → (a == b) ≡ false → a ≡ b → ⊥
unlike a b e same = grind (arith, nat_tests, e, same)

none_sits : (k : ℕ) (seats : List Seat) → is_client seats k ≡ false → (a : Seat) → Among seats a → a.client.0 ≡ k → ⊥
none_sits k [] none a there named = absurd there
none_sits k (x ∷ xs) none a (inl is) named = unlike x.client.0 k (neither (x.client.0 == k) (is_client xs k) none).0 (ap (λ (s : Seat). s.client.0) is ∙ named)
none_sits k (x ∷ xs) none a (inr there) named = none_sits k xs (neither (x.client.0 == k) (is_client xs k) none).1 a there named

one_more : (seats : List Seat) (seat : Seat) → is_client seats seat.client.0 ≡ false → SitOnce seats → SitOnce (seats ++ seat ∷ [])
one_more seats seat none once a b a_there b_there same = by (among_append seats (seat ∷ []) a a_there) (among_append seats (seat ∷ []) b b_there)
  where
    by : Among seats a ⊎ Among (seat ∷ []) a → Among seats b ⊎ Among (seat ∷ []) b → a.node.0 ≡ b.node.0
    by (inl front) (inl other) = once a b front other same
    by (inl front) (inr (inl is)) = absurd (none_sits seat.client.0 seats none a front (same ∙ sym (ap (λ (s : Seat). s.client.0) is)))
    by (inl front) (inr (inr there)) = absurd there
    by (inr (inl is)) (inl other) = absurd (none_sits seat.client.0 seats none b other (sym same ∙ sym (ap (λ (s : Seat). s.client.0) is)))
    by (inr (inl is)) (inr (inl too)) = ap (λ (s : Seat). s.node.0) (sym is ∙ too)
    by (inr (inl is)) (inr (inr there)) = absurd there
    by (inr (inr there)) other = absurd there

-- line by line
once_on : (script : Script) (s : Statement) → is_again script s ≡ false → SitOnce script.seats → SitOnce (seats_after script.seats s)
once_on script (states.Seated seat) new once = one_more script.seats seat new once
once_on script states.Nothing new once = once
once_on script (states.Limited quota) new once = once
once_on script (states.Audited node) new once = once
once_on script (states.Fault planned) new once = once
once_on script (states.Order client label command) new once = once
once_on script (states.Lend client label to) new once = once
once_on script (states.Unreadable fault) new once = once

pub each_sits_once : (nodes : ℕ) (text : List ℕ) (script : Script) → ReadSitOnce nodes text script
each_sits_once nodes text script is = read_all nodes (λ s. SitOnce s.seats) (λ before line right once. once_on before (line_states line) right.once once) text script (λ a b a_there b_there same. absurd a_there) is
