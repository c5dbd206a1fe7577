-- What a `ShowRule` shows.
use Rattle.ctf_views.specs.PartsView.{array_info, encoding_info}
use Rattle.ctf_print.specs.ShowRules as show_rules
use Rattle.ctf_print.specs.declared.show_rules.ShowRule.{ShowRule}
use Rattle.ctf_print.specs.declared.show_rules.ShowRule.TheVariants as rule

abbrev pub show_rule : ShowRule → show_rules.ShowRule
show_rule (rule.Integer encoding) = show_rules.integer (encoding_info encoding)
show_rule (rule.Float encoding) = show_rules.float (encoding_info encoding)
show_rule rule.Pointer = show_rules.pointer
show_rule (rule.Enum said es) = show_rules.enum said es
show_rule (rule.Members ms) = show_rules.members ms
show_rule (rule.Array info) = show_rules.array (array_info info)
show_rule (rule.As t) = show_rules.like t.0
show_rule rule.Incomplete = show_rules.not_shown
