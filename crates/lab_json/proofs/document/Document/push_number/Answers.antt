use Rattle.std.proofs.Common.{arith}
use Rattle.json.proofs.Printed.Decimals.{IsNumber-decimal}
use Rattle.lab_json.proofs.document.Document.push_number.Goals as goal

pub push_token-requires : goal.push_token-requires
push_token-requires c = rw c.format.ensures.text (IsNumber-decimal c.args.number (omega arith))
