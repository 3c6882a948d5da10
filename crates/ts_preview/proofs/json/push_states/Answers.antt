use Rattle.std.proofs.Common.{◌≡◌, ◌++◌, ℕ, List, codes}
use Rattle.ts_preview.specs.Json.{json_state, json_states}
use Rattle.ts_preview.specs.declared.outlook.Outlook.{Outlook}
use Rattle.ts_preview.proofs.Appended.{five_pieces, last_piece}
use Rattle.ts_preview.proofs.json.push_states.Goals as goal

-- piece after piece
states_spelled : (o : Outlook) (l₀ l₁ l₂ l₃ l₄ : List ℕ) → l₁ ≡ l₀ ++ codes ",\"first\":" → l₂ ≡ l₁ ++ json_state o.first
    → l₃ ≡ l₂ ++ codes ",\"second\":" → l₄ ≡ l₃ ++ json_state o.second → l₄ ++ codes "}" ≡ l₀ ++ json_states o
states_spelled o l₀ l₁ l₂ l₃ l₄ name first other second =
    five_pieces l₀ l₁ l₂ l₃ l₄ (codes ",\"first\":") (json_state o.first) (codes ",\"second\":") (json_state o.second) (codes "}")
    name first other second

pub returns : goal.returns
returns c =
    last_piece c.extend_from_slice-3.result c.extend_from_slice-3.new.self.items c.push_state-2.new.line.items (codes "}") (c.args.line.now.items ++ json_states c.args.outlook.now)
    c.extend_from_slice-3.ensures.items
    (states_spelled c.args.outlook.now c.args.line.now.items
    c.extend_from_slice.new.self.items c.push_state.new.line.items c.extend_from_slice-2.new.self.items c.push_state-2.new.line.items
    c.in_ok-extend_from_slice.ensures.items c.in_ok-push_state.ensures c.in_ok-extend_from_slice-2.ensures.items c.in_ok-push_state-2.ensures)
