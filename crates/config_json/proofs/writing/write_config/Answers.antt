use Rattle.std.proofs.Common.{[], ◌∙◌}
use Rattle.json_objects.proofs.Behind.{value_written}
use Rattle.config_json.specs.Written.{config_value}
use Rattle.config_json.proofs.Fine.{fine_config}
use Rattle.config_json.proofs.writing.write_config.Goals as goal

pub returns : goal.returns
returns c =
    let asked = c.args.with_secrets in
    let config = c.args.config.now in
    value_written c.close_line.result (config_value asked config) [] c.new-writer.result c.config_members.new.writer c.close_line.ensures (c.new-writer.ensures.before ∙ c.new.ensures.items)
    c.new-writer.ensures.tokens c.in_ok-config_members.ensures (fine_config asked config)
