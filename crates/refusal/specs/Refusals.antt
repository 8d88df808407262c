-- A refusal, by its parts, and how it prints. Assumes nothing.
use Rattle.std.specs.Prelude.{ℕ, List, ◌++◌, codes, decimal}
use Rattle.refusal.specs.declared.Layer.{Layer}
use Rattle.refusal.specs.declared.Layer.TheVariants.{Sheet, Shape, Rule, Session, Log, Order}
use Rattle.refusal.specs.declared.Refusal.{Refusal}

abbrev pub refused_at : Layer → ℕ → ℕ → Refusal
refused_at l n p = record { layer = l; number = n; place = p }

abbrev pub layer_name : Layer → List ℕ
layer_name Sheet = codes "sheet"
layer_name Shape = codes "shape"
layer_name Rule = codes "rule"
layer_name Session = codes "session"
layer_name Log = codes "log"
layer_name Order = codes "order"

-- refused LAYER NUMBER PLACE
abbrev pub refusal_text : Refusal → List ℕ
refusal_text r = codes "refused " ++ (layer_name r.layer ++ (codes " " ++ (decimal r.number ++ (codes " " ++ decimal r.place))))
