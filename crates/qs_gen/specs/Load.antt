-- The load script of a seed: the words that it needs are drawn one after another.
use Rattle.std.specs.Prelude.{ℕ, zero, suc, List, [], ◌++◌}
use Rattle.rand_pcg.specs.Lcg.{started, increment_of}
use Rattle.rand_pcg.specs.Pcg.{multiplier_64, pcg32}
use Rattle.qs_gen.specs.Lines.{client_line, begin_line, put_line, end_line}
use Rattle.qs_gen.specs.declared.draft.Draft.{Draft}
use Rattle.qs_gen.specs.declared.lines.Label.{Label}

-- no line yet, and the generator of the seed in its first stream
abbrev pub empty_draft : ℕ → Draft
empty_draft seed = record { text = []; rng = started 64 multiplier_64 seed (increment_of 64 0) }

abbrev pub with_line : List ℕ → Draft → Draft
with_line line draft = record draft { text = draft.text ++ line }

-- the clients with numbers below this
unfoldable pub with_clients : ℕ → Draft → Draft
with_clients zero draft = draft
with_clients (suc client) draft = with_line (client_line client) (with_clients client draft)

-- a put takes two words
abbrev pub with_put : Label → ℕ → Draft → Draft
with_put label file draft = record {
  text = draft.text ++ put_line label file (pcg32 draft.rng).0 (pcg32 (pcg32 draft.rng).1).0;
  rng = (pcg32 (pcg32 draft.rng).1).1;
}

unfoldable pub with_puts : Label → ℕ → Draft → Draft
with_puts label zero draft = draft
with_puts label (suc file) draft = with_put label file (with_puts label file draft)

-- an end takes one
abbrev pub with_end : Label → Draft → Draft
with_end label draft = record {
  text = draft.text ++ end_line label (pcg32 draft.rng).0;
  rng = (pcg32 draft.rng).1;
}

-- begin, four puts, commit or abort
abbrev pub with_transaction : Label → Draft → Draft
with_transaction label draft = with_end label (with_puts label 4 (with_line (begin_line label) draft))

-- the transactions of a client with numbers below this
unfoldable pub with_transactions : ℕ → ℕ → Draft → Draft
with_transactions client zero draft = draft
with_transactions client (suc number) draft =
    with_transaction (record { client = client; number = number }) (with_transactions client number draft)

-- forty of each of so many clients
unfoldable pub with_commands : ℕ → Draft → Draft
with_commands zero draft = draft
with_commands (suc client) draft = with_transactions client 40 (with_commands client draft)

-- eight clients, and then their commands
abbrev pub load_script : ℕ → List ℕ
load_script seed = (with_commands 8 (with_clients 8 (empty_draft seed))).text
