-- A part of a load script goes on by one, and is whole at its count.
use Rattle.std.proofs.Common.{◌≡◌, ℕ, ◌+◌, List, refl, add-one}
use Rattle.qs_gen.specs.Lines.{client_line}
use Rattle.qs_gen.specs.Load.{with_line, with_clients, with_put, with_puts, with_transaction, with_transactions, with_commands}
use Rattle.qs_gen.specs.declared.draft.Draft.{Draft}
use Rattle.qs_gen.specs.declared.lines.Label.{Label}

pub no_clients : (draft : Draft) → draft ≡ with_clients 0 draft
unfolding with_clients
no_clients draft = refl

pub next_client : (client : ℕ) (line : List ℕ) (start now new : Draft) → line ≡ client_line client → new ≡ with_line line now
    → now ≡ with_clients client start → new ≡ with_clients (client + 1) start
unfolding with_clients
next_client client line start now new is added so_far = rw (add-one, added, is, so_far) refl

pub no_puts : (label : Label) (draft : Draft) → draft ≡ with_puts label 0 draft
unfolding with_puts
no_puts label draft = refl

pub next_put : (label : Label) (file : ℕ) (start now new : Draft) → new ≡ with_put label file now → now ≡ with_puts label file start
    → new ≡ with_puts label (file + 1) start
unfolding with_puts
next_put label file start now new added so_far = rw (add-one, added, so_far) refl

pub no_transactions : (client : ℕ) (draft : Draft) → draft ≡ with_transactions client 0 draft
unfolding with_transactions
no_transactions client draft = refl

pub next_transaction : (client number : ℕ) (start now new : Draft) → new ≡ with_transaction (record { client = client; number = number }) now
    → now ≡ with_transactions client number start → new ≡ with_transactions client (number + 1) start
unfolding with_transactions
next_transaction client number start now new added so_far = rw (add-one, added, so_far) refl

pub no_commands : (draft : Draft) → draft ≡ with_commands 0 draft
unfolding with_commands
no_commands draft = refl

pub next_commands : (client : ℕ) (start now new : Draft) → new ≡ with_transactions client 40 now → now ≡ with_commands client start
    → new ≡ with_commands (client + 1) start
unfolding with_commands
next_commands client start now new added so_far = rw (add-one, added, so_far) refl

pub all_of : (parts : ℕ → Draft) (now : Draft) (done count : ℕ) → done ≡ count → now ≡ parts done → now ≡ parts count
all_of parts now done count is so_far = rw (← is) so_far
