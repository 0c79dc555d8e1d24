use mathlib.Core.List.{[], ◌∷◌, ◌++◌}
use mathlib.Core.Path.{refl}
use Rattle.text.specs.Text.{decimal}
use Rattle.text.proofs.Wrote.{writes-begin, writes-room, writes-more, writes-end}
use Rattle.text.proofs.output.Out.value.Goals as goal

pub decimal-requires : goal.decimal-requires
decimal-requires c = writes-room (decimal c.args.n) ((c.args.end ∷ []) ++ []) (writes-begin c.args.self.now (decimal c.args.n ++ (c.args.end ∷ [])) ((decimal c.args.n) ++ ((c.args.end ∷ []) ++ [])) refl c.requires)

pub byte-requires : goal.byte-requires
byte-requires c = writes-room (c.args.end ∷ []) [] (writes-more (decimal c.args.n) ((c.args.end ∷ []) ++ []) (writes-begin c.args.self.now (decimal c.args.n ++ (c.args.end ∷ [])) ((decimal c.args.n) ++ ((c.args.end ∷ []) ++ [])) refl c.requires) c.decimal.ensures)

pub returns : goal.returns
returns c = writes-end [] (decimal c.args.n ++ (c.args.end ∷ [])) (writes-more (c.args.end ∷ []) [] (writes-more (decimal c.args.n) ((c.args.end ∷ []) ++ []) (writes-begin c.args.self.now (decimal c.args.n ++ (c.args.end ∷ [])) ((decimal c.args.n) ++ ((c.args.end ∷ []) ++ [])) refl c.requires) c.decimal.ensures) c.byte.ensures) refl
