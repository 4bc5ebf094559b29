use Rattle.config_json.proofs.Secrets.{no_text, secret_told}
use Rattle.config_json.proofs.writing.secret_if_asked.Goals as goal

pub returns-in-Ok : goal.returns-in-Ok
returns-in-Ok c =
    secret_told c.text.result c.args.writer.now c.text.new.writer c.args.with_secrets c.args.secret.now c.octets.result.now c.in-Ok.secret.now c.if-not-with_secrets.false c.octets.ensures.value
    c.in-Ok.ensures.cases.0 c.in-Ok.ensures.cases.1 c.text.ensures

pub returns-in-Err : goal.returns-in-Err
returns-in-Err c =
    no_text c.args.writer.now c.args.with_secrets c.args.secret.now c.octets.result.now c.if-not-with_secrets.false c.octets.ensures.value c.in-Err.ensures.cases.0
