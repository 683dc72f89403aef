use Rattle.std.proofs.Common.{rules}
use Rattle.json.proofs.Printed.Decimals.{IsNumber-signed_decimal}
use Rattle.lab_json.proofs.document.Document.push_signed.Goals as goal

pub push_token-requires : goal.push_token-requires
push_token-requires c = search (rules, IsNumber-signed_decimal)
